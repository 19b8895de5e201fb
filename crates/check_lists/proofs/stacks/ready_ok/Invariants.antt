-- `check_lists::stacks::ready_ok` meets its contract: what is left to test has the same answer.
use mathlib.Core.Path.{◌≡◌}
use lib.ListN.{drop}
use Rattle.rules.specs.Table.{all}
use mathlib.Core.Bool.{◌&&◌}
use lib.Dec.{ltb}
use Rattle.rules.specs.Machine.{live}
use Rattle.tables.specs.View.{view}
use Rattle.check_lists.proofs.stacks.ready_ok.Given as goal

abbrev pub invariant-loop-k : goal.invariant-loop-k
invariant-loop-k l =
    all (λ p. ltb p 96 && live (view l.s) p) (view l.s).ready
    ≡ all (λ p. ltb p 96 && live (view l.s) p) (drop l.k (view l.s).ready)
