use Rattle.tables.specs.View.{view}
use mathlib.Core.Path.{◌∙◌}
use Rattle.waking.specs.Ready.{runnable_queued, runnable_not}
use Rattle.operator.specs.Pipeline.{pipeline_of}
use Rattle.waking.proofs.ready.make_runnable.Goals as goal

pub returns-then-v : goal.returns-then-v
returns-then-v c = (
  c.set_state.ensures.0 ∙ runnable_queued (view c.args.s.now) c.args.p.at (pipeline_of c.load_pipe-v.result) c.load_pipe-v.ensures c.if-v.true,
  c.set_state.ensures.1,
)

pub returns : goal.returns
returns c = (
  rw (c.enqueue.ensures.0, c.set_state.ensures.0) (runnable_not (view c.args.s.now) c.args.p.at (pipeline_of c.load_pipe-v.result) c.load_pipe-v.ensures
      c.if-v.false),
  c.enqueue.ensures.1 ∙ c.set_state.ensures.1,
)
