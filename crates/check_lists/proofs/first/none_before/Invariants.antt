-- `check_lists::first::none_before` meets its contract.
use Rattle.tables.specs.View.{view}
use Rattle.check_lists.specs.First.{First}
use Rattle.check_lists.proofs.first.none_before.Given as goal

abbrev pub invariant-loop-l : goal.invariant-loop-l
invariant-loop-l l = First (view l.s).job l.g l.l
