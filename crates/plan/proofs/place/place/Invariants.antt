-- `plan::place::place` meets its contract. The invariant: the nodes from i on are placed, and the others are as they were.
use Prim.Native.Nat.{◌≤◌}
use Rattle.plan.proofs.PlaceLaws.{Placed}
use Rattle.plan.proofs.place.place.Given as goal

abbrev pub invariant-loop-i : goal.invariant-loop-i
invariant-loop-i l = (l.i ≤ l.count) × Placed l.initial.out l.count l.i l.out
