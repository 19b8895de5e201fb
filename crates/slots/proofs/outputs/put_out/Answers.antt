-- `slots::outputs::put_out` meets its contract.
use mathlib.Core.Path.{◌∙◌}
use Rattle.tables.specs.View.{view}
use Rattle.slots.specs.Outputs.{put_out_is}
use Rattle.slots.proofs.outputs.put_out.Goals as goal

pub returns : goal.returns
returns c = (
  put_out_is c.args.x.at c.args.t (view c.args.s.now) _ _ _ c.requires.s_value c.hold_batches.ensures.0 c.clear_queue.ensures.0 c.wake_writer.ensures.0,
  c.wake_writer.ensures.1 ∙ c.clear_queue.ensures.1 ∙ c.hold_batches.ensures.1,
)
