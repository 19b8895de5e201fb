-- `running::stops::stop_blocked` meets its contract.
use mathlib.Core.Path.{ap, ◌∙◌}
use Rattle.operator.specs.Answer.{blocked_of}
use Rattle.tables.specs.View.{view}
use Rattle.running.specs.Stops.{stopped_io, stopped_inlet}
use borrow.Author.Rules.{rules}
use Rattle.running.proofs.stops.stop_blocked.Goals as goal

pub enum_told-1 : goal.enum_told-1
enum_told-1 c = search rules

pub returns-in-Io : goal.returns-in-Io
returns-in-Io c = (
  c.stop_for_bytes.ensures.0 ∙ stopped_io c.args.p.at (view c.args.s.now) (blocked_of c.args.b) (ap blocked_of c.in-Io.is),
  c.stop_for_bytes.ensures.1,
)

pub returns-in-Inlet : goal.returns-in-Inlet
returns-in-Inlet c =
    (c.set_state.ensures.0 ∙ stopped_inlet c.args.p.at (view c.args.s.now) _ (blocked_of c.args.b) (ap blocked_of c.in-Inlet.is), c.set_state.ensures.1)
