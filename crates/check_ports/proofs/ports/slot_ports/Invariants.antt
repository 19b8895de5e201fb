-- `check_ports::ports::slot_ports` meets its contract: what is left to test has the same answer.
use mathlib.Core.Path.{◌≡◌}
use Prim.Native.Nat.{◌+◌, ◌*◌}
use Rattle.rules.specs.Check.{port_ok}
use Rattle.tables.specs.View.{view}
use Rattle.numbers.specs.Loops.{from}
use Rattle.check_ports.proofs.ports.slot_ports.Given as goal

abbrev pub invariant-loop-n : goal.invariant-loop-n
invariant-loop-n l = from (port_ok (view l.s)) (view l.s).ports (l.k.at * 24) ≡ from (port_ok (view l.s)) (view l.s).ports (l.k.at * 24 + l.n)
