-- `check_lists::stacks::dirty_ok` meets its contract: what is left to test has the same answer.
use mathlib.Core.Path.{◌≡◌}
use lib.ListN.{drop}
use Rattle.rules.specs.Table.{all}
use Rattle.rules.specs.Check.{is_active}
use Rattle.tables.specs.View.{view}
use Rattle.check_lists.proofs.stacks.dirty_ok.Given as goal

abbrev pub invariant-loop-k : goal.invariant-loop-k
invariant-loop-k l =
    all (is_active (view l.s)) (view l.s).dirty
    ≡ all (is_active (view l.s)) (drop l.k (view l.s).dirty)
