-- `check_ports::ports::leaf_ok` meets its contract.
use native.Mathlib.Omega.{arith}
use Rattle.rules.specs.Machine.{no_port}
use Rattle.rules.specs.Check.{port_ok}
use Rattle.tables.specs.View.{view}
use Rattle.tables.specs.Lengths.{length_ports}
use Rattle.numbers.specs.Loops.{each_skip}
use Rattle.check_ports.specs.Ports.{port_none}
use Rattle.check_ports.proofs.ports.leaf_ok.Goals as goal

pub returns-then-blank_ports : goal.returns-then-blank_ports
returns-then-blank_ports c =
    let s = c.args.s.now in
    rw c.if-blank_ports.true (each_skip (port_ok (view s)) no_port (view s).ports c.args.x 16 (omega (arith, length_ports s))
    (λ k a b. port_none (view s) k _ (c.blank_ports.ensures.no_ports c.if-blank_ports.true k a b)))
