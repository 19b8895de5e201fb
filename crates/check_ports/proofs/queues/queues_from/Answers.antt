-- `check_ports::queues::queues_from` meets its contract: what is left to test has the same answer.
use mathlib.Core.Path.{sym, ◌∙◌}
use mathlib.Core.List.{[]}
use native.Mathlib.Omega.{arith}
use borrow.Author.Rules.{rules}
use Rattle.rules.specs.Check.{queue_ok}
use Rattle.tables.specs.View.{view}
use Rattle.tables.specs.Queues.{length_queues}
use Rattle.numbers.specs.Loops.{each_pass, each_fail}
use Rattle.check_ports.proofs.queues.queues_from.Goals as goal

pub returns-then-not-queue_ok : goal.returns-then-not-queue_ok
returns-then-not-queue_ok c =
    let s = c.args.s.now in
    c.loop-i.invariant ∙ each_fail (queue_ok (view s)) [] (view s).queues c.loop-i.i (omega (arith, length_queues s (search rules)))
    (sym (c.if-not-queue_ok.true) ∙ c.queue_ok.ensures)

pub loop-i-preserved : goal.loop-i-preserved
loop-i-preserved c =
    let s = c.args.s.now in
    c.loop-i.invariant ∙ each_pass (queue_ok (view s)) [] (view s).queues c.loop-i.i (omega (arith, length_queues s (search rules)))
    (sym (c.if-not-queue_ok.false) ∙ c.queue_ok.ensures)
