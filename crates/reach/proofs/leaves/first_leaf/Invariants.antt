-- `reach::leaves::first_leaf_lem` meets its contract.
use Rattle.tables.specs.View.{view}
use Rattle.reach.specs.Leaves.{FirstFrom}
use Rattle.reach.proofs.leaves.first_leaf.Given as goal

abbrev pub invariant-loop-i : goal.invariant-loop-i
invariant-loop-i l = FirstFrom (view l.s).job l.l.at l.i
