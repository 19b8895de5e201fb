-- `running::stops::stop_for_bytes` meets its contract.
use mathlib.Core.Path.{◌∙◌}
use Rattle.tables.specs.View.{view}
use Rattle.running.specs.Stops.{bytes_unused, bytes_used}
use Rattle.running.proofs.stops.stop_for_bytes.Goals as goal

pub returns-then-has_bytes : goal.returns-then-has_bytes
returns-then-has_bytes c = (
  c.make_runnable.ensures.0 ∙ bytes_unused c.args.p.at (view c.args.s.now) _ _ c.load_source-x.ensures c.has_bytes.ensures c.if-has_bytes.true,
  c.make_runnable.ensures.1,
)

pub returns : goal.returns
returns c = (
  c.set_state.ensures.0 ∙ bytes_used c.args.p.at (view c.args.s.now) _ _ c.load_source-x.ensures c.has_bytes.ensures c.if-has_bytes.false,
  c.set_state.ensures.1,
)
