-- `check_ports::ports::leaf_ports` meets its contract: what is left to test has the same answer.
use mathlib.Core.Path.{◌≡◌}
use Prim.Native.Nat.{◌+◌}
use Rattle.rules.specs.Check.{port_ok}
use Rattle.tables.specs.View.{view}
use Rattle.numbers.specs.Loops.{from}
use Rattle.check_ports.proofs.ports.leaf_ports.Given as goal

abbrev pub invariant-loop-i : goal.invariant-loop-i
invariant-loop-i l = from (port_ok (view l.s)) (view l.s).ports l.x ≡ from (port_ok (view l.s)) (view l.s).ports (l.x + l.i)
