-- `check_lists::stacks::freed_ok` meets its contract: what is left to test has the same answer.
use mathlib.Core.Path.{◌≡◌}
use lib.ListN.{drop}
use Rattle.rules.specs.Table.{all}
use lib.Dec.{ltb}
use Rattle.tables.specs.View.{view}
use Rattle.check_lists.proofs.stacks.freed_ok.Given as goal

abbrev pub invariant-loop-k : goal.invariant-loop-k
invariant-loop-k l =
    all (λ n. ltb n (view l.s).made) (view l.s).freed
    ≡ all (λ n. ltb n (view l.s).made) (drop l.k (view l.s).freed)
