-- The rules' value for a pipeline and its state.
use Rattle.rules.specs.Operators as rules
use Rattle.rules.specs.Machine as machine
use Rattle.operator.specs.declared.pipeline.State.{State}
use Rattle.operator.specs.declared.pipeline.State.TheVariants.{Runnable, Blocked, Outlet}
use Rattle.operator.specs.declared.pipeline.Pipeline.{Pipeline}
use Rattle.operator.specs.Answer.{blocked_of}

abbrev pub state_of : State → rules.State
state_of Runnable = rules.runnable
state_of (Blocked b) = rules.blocked (blocked_of b)
state_of Outlet = rules.outlet

abbrev pub pipeline_of : Pipeline → machine.Pipeline
pipeline_of p = record { live = p.live; state = state_of p.state; queued = p.queued; number = p.number }
