-- `slots::outputs::hold_batches` meets its contract.
use mathlib.Core.Path.{refl, ◌∙◌}
use native.Mathlib.Omega.{arith}
use Rattle.tables.specs.View.{view}
use Rattle.slots.specs.Outputs.{holding_start, holding_queue, holding_next, holding_end}
use Rattle.slots.proofs.outputs.hold_batches.Goals as goal

pub loop-i-init : goal.loop-i-init
loop-i-init c =
    (holding_start c.args.x.at c.args.t (view c.args.s.now) c.requires.s_value, refl)

pub batch_at-batch-requires : goal.batch_at-batch-requires
batch_at-batch-requires c =
    record {
      i_in_bounds = holding_queue c.args.x.at c.args.t c.loop-i.i c.queue_len-i-end.result (view c.args.s.now) _ c.loop-i.invariant.0 c.queue_len-i-end.ensures (omega arith);
    }

pub loop-i-preserved : goal.loop-i-preserved
loop-i-preserved c = (
  holding_next c.args.x.at c.args.t c.loop-i.i c.queue_len-i-end.result _ (view c.args.s.now) _ _ c.queue_len-i-end.ensures (omega arith) c.requires.x_len_bound
      c.batch_at-batch.ensures.result_value c.push_output.ensures.becomes.0 c.loop-i.invariant.0,
  c.push_output.ensures.becomes.1 ∙ c.loop-i.invariant.1,
)

pub returns : goal.returns
returns c = (
  holding_end c.args.x.at c.args.t c.loop-i.i c.queue_len-i-end.result (view c.args.s.now) _ c.queue_len-i-end.ensures (omega arith) c.loop-i.invariant.0,
  c.loop-i.invariant.1,
)
