-- `check_ports::ports::ports_ok` meets its contract: what is left to test has the same answer.
use mathlib.Core.Path.{◌≡◌}
use Prim.Native.Nat.{◌+◌, ◌*◌}
use Rattle.rules.specs.Table.{each}
use Rattle.rules.specs.Check.{port_ok}
use Rattle.tables.specs.View.{view}
use Rattle.numbers.specs.Loops.{from}
use Rattle.check_ports.proofs.ports.ports_ok.Given as goal

abbrev pub invariant-loop-b : goal.invariant-loop-b
invariant-loop-b l = each (port_ok (view l.s)) 0 (view l.s).ports ≡ from (port_ok (view l.s)) (view l.s).ports (72 + l.b * 64)
