-- `check_ports::ports::slot_ports` meets its contract: what is left to test has the same answer.
use mathlib.Core.Path.{◌≡◌, sym, ap, ◌∙◌}
use Prim.Native.Nat.{◌+◌, ◌*◌}
use native.Mathlib.Omega.{arith}
use Rattle.rules.specs.Machine.{no_port}
use Rattle.rules.specs.Check.{port_ok}
use Rattle.tables.specs.View.{view}
use Rattle.tables.specs.Lengths.{length_ports}
use Rattle.numbers.specs.Loops.{from, each_pass, each_fail}
use Rattle.check_ports.proofs.ports.slot_ports.Goals as goal

pub returns-then-not-slot_port : goal.returns-then-not-slot_port
returns-then-not-slot_port c =
    let s = c.args.s.now in
    c.loop-n.invariant ∙ each_fail (port_ok (view s)) no_port (view s).ports (c.args.k.at * 24 + c.loop-n.n) (omega (arith, length_ports s))
    (sym (c.if-not-slot_port.true) ∙ c.slot_port.ensures)

pub loop-n-preserved : goal.loop-n-preserved
loop-n-preserved c =
    let s = c.args.s.now in
    let k = c.args.k.at in
    let e : k * 24 + c.loop-n.n + 1 ≡ k * 24 + (c.loop-n.n + 1) = omega arith in
    c.loop-n.invariant ∙ each_pass (port_ok (view s)) no_port (view s).ports (k * 24 + c.loop-n.n) (omega (arith, length_ports s))
    (sym (c.if-not-slot_port.false) ∙ c.slot_port.ensures) ∙ ap (from (port_ok (view s)) (view s).ports) e
