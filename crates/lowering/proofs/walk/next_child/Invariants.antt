-- `lowering::walk::next_child` meets its contract.
use Rattle.tables.specs.View.{view}
use Rattle.lowering.specs.Walk.{Passed}
use Rattle.lowering.proofs.walk.next_child.Given as goal

abbrev pub invariant-loop-c : goal.invariant-loop-c
invariant-loop-c l = Passed (view l.s).job l.i l.n.at l.c
