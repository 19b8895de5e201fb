-- `layout::stack::remove` meets its contract.
use Rattle.layout.specs.Removal.{Removing}
use Rattle.layout.specs.Numbers.{byte}
use Rattle.layout.proofs.stack.remove.Given as goal

abbrev pub invariant-loop-i : goal.invariant-loop-i
invariant-loop-i l = Removing l.k (byte l.initial.r 0) l.i l.j l.initial.r l.r
