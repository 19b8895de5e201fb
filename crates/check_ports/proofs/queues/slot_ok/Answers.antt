-- `check_ports::queues::slot_ok` meets its contract.
use mathlib.Core.List.{[]}
use native.Mathlib.Omega.{arith}
use borrow.Author.Rules.{rules}
use Rattle.rules.specs.Check.{queue_ok}
use Rattle.tables.specs.View.{view}
use Rattle.tables.specs.Queues.{length_queues}
use Rattle.numbers.specs.Loops.{each_skip}
use Rattle.check_ports.specs.Queues.{no_queue_ok}
use Rattle.check_ports.proofs.queues.slot_ok.Goals as goal

pub returns-then-blank_rings : goal.returns-then-blank_rings
returns-then-blank_rings c =
    let s = c.args.s.now in
    rw c.if-blank_rings.true (each_skip (queue_ok (view s)) [] (view s).queues c.args.x 24 (omega (arith, length_queues s (search rules)))
    (λ k a b. no_queue_ok (view s) k _ (c.blank_rings.ensures.idle c.if-blank_rings.true k a b)))
