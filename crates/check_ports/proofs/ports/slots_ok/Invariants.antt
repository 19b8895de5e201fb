-- `check_ports::ports::slots_ok` meets its contract: what is left to test has the same answer.
use mathlib.Core.Path.{◌≡◌}
use Prim.Native.Nat.{◌*◌}
use Rattle.rules.specs.Check.{port_ok}
use Rattle.tables.specs.View.{view}
use Rattle.numbers.specs.Loops.{from}
use Rattle.check_ports.proofs.ports.slots_ok.Given as goal

abbrev pub invariant-loop-k : goal.invariant-loop-k
invariant-loop-k l = from (port_ok (view l.s)) (view l.s).ports 0 ≡ from (port_ok (view l.s)) (view l.s).ports (l.k * 24)
