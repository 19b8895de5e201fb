-- `check_ports::ports::ports_ok` meets its contract: what is left to test has the same answer.
use mathlib.Core.Path.{sym, ◌∙◌}
use Prim.Native.Nat.{◌+◌, ◌*◌}
use native.Mathlib.Omega.{arith}
use Rattle.rules.specs.Check.{port_ok}
use Rattle.tables.specs.View.{view}
use Rattle.tables.specs.Lengths.{length_ports}
use Rattle.numbers.specs.Loops.{each_none}
use Rattle.check_ports.proofs.ports.ports_ok.Goals as goal

pub returns : goal.returns
returns c =
    let s = c.args.s.now in
    sym (c.loop-b.invariant ∙ each_none (port_ok (view s)) (view s).ports (72 + c.loop-b.b * 64) (omega (arith, length_ports s)))
