-- `check_ports::ports::leaf_ports` meets its contract: what is left to test has the same answer.
use mathlib.Core.Path.{◌≡◌, sym, ap, ◌∙◌}
use Prim.Native.Nat.{◌+◌}
use native.Mathlib.Omega.{arith}
use Rattle.rules.specs.Machine.{no_port}
use Rattle.rules.specs.Check.{port_ok}
use Rattle.tables.specs.View.{view}
use Rattle.tables.specs.Lengths.{length_ports}
use Rattle.numbers.specs.Loops.{from, each_pass, each_fail}
use Rattle.check_ports.proofs.ports.leaf_ports.Goals as goal

pub returns-then-not-share_port : goal.returns-then-not-share_port
returns-then-not-share_port c =
    let s = c.args.s.now in
    c.loop-i.invariant ∙ each_fail (port_ok (view s)) no_port (view s).ports (c.args.x + c.loop-i.i) (omega (arith, length_ports s))
    (sym (c.if-not-share_port.true) ∙ c.share_port.ensures)

pub loop-i-preserved : goal.loop-i-preserved
loop-i-preserved c =
    let s = c.args.s.now in
    let x = c.args.x in
    let e : x + c.loop-i.i + 1 ≡ x + (c.loop-i.i + 1) = omega arith in
    c.loop-i.invariant ∙ each_pass (port_ok (view s)) no_port (view s).ports (x + c.loop-i.i) (omega (arith, length_ports s))
    (sym (c.if-not-share_port.false) ∙ c.share_port.ensures) ∙ ap (from (port_ok (view s)) (view s).ports) e
