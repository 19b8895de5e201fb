-- `check_ports::bounded::batches_ok` meets its contract.
use mathlib.Core.Path.{sym, ap, ◌∙◌}
use native.Mathlib.Omega.{arith}
use Rattle.rules.specs.Port.{no_batch}
use Rattle.rules.specs.Machine.{queue_at}
use Rattle.rules.specs.Check.{batch_ok}
use Rattle.tables.specs.View.{view}
use Rattle.numbers.specs.Loops.{all_pass, all_fail, all_none}
use Rattle.check_ports.proofs.bounded.batches_ok.Goals as goal

pub returns-then-n-eq0 : goal.returns-then-n-eq0
returns-then-n-eq0 c =
    sym (all_none _ (queue_at (view c.args.s.now) c.args.x.at) 0 (omega (arith, c.queue_len-n.ensures, c.if-n-eq0.true)))

pub returns-then-not-batch_ok : goal.returns-then-not-batch_ok
returns-then-not-batch_ok c =
    let m = view c.args.s.now in
    let q = queue_at m c.args.x.at in
    let width = c.width_at-width.result in
    rw (← c.width_at-width.ensures)
    (sym (c.loop-i.invariant ∙ all_fail (batch_ok m.job width) no_batch q c.loop-i.i (omega (arith, c.queue_len-n.ensures))
    (sym (c.if-not-batch_ok.true) ∙ c.batch_ok.ensures ∙ ap (batch_ok m.job width) c.batch_at.ensures.result_value)))

pub loop-i-preserved : goal.loop-i-preserved
loop-i-preserved c =
    let m = view c.args.s.now in
    let q = queue_at m c.args.x.at in
    let width = c.width_at-width.result in
    c.loop-i.invariant ∙ all_pass (batch_ok m.job width) no_batch q c.loop-i.i (omega (arith, c.queue_len-n.ensures))
    (sym (c.if-not-batch_ok.false) ∙ c.batch_ok.ensures ∙ ap (batch_ok m.job width) c.batch_at.ensures.result_value)

pub returns : goal.returns
returns c =
    let m = view c.args.s.now in
    let q = queue_at m c.args.x.at in
    rw (← c.width_at-width.ensures)
    (sym (c.loop-i.invariant ∙ all_none (batch_ok m.job c.width_at-width.result) q c.loop-i.i (omega (arith, c.queue_len-n.ensures))))
