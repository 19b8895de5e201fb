-- `check_lists::outputs::outputs_ok` meets its contract: what is left to test has the same answer.
use mathlib.Core.Path.{◌≡◌}
use lib.ListN.{drop}
use Rattle.rules.specs.Table.{all}
use Rattle.rules.specs.Check.{output_ok}
use Rattle.tables.specs.View.{view}
use Rattle.check_lists.proofs.outputs.outputs_ok.Given as goal

abbrev pub invariant-loop-k : goal.invariant-loop-k
invariant-loop-k l =
    all (output_ok (view l.s)) (view l.s).outputs
    ≡ all (output_ok (view l.s)) (drop l.k (view l.s).outputs)
