-- Demand 3 of a job, from what is asked of step and delivery.
use Rattle.std.specs.Prelude.{List}
use Rattle.rules.specs.Job.{Job}
use Rattle.rules.specs.Machine.{Machine, start}
use Rattle.rules.specs.Session.{Call}
use Rattle.rules.specs.Demand.{Demand3}
use Rattle.laws.specs.JobOk.{JobOk}
use Rattle.order.specs.Seen.{StepOk}
use Rattle.order.specs.Trace.{not_refused, rightly_taken, made_once, in_turn, all_told, right_turns, front_parts, all_outs}
use Rattle.order.specs.Bound.{bound_ok}

pub demand3 : (j : Job) (Good : Machine → Type 0) → JobOk j → Good (start j) → StepOk Good → (calls : List Call) → Demand3 j (start j) calls
demand3 j Good ok g k calls = record {
  steps = not_refused j Good ok g k calls;
  deliveries = rightly_taken j Good ok g k calls;
  requests = made_once j Good ok g k calls;
  tells = in_turn j Good ok g k calls;
  told = all_told j Good ok g k calls;
  turns = right_turns j Good ok g k calls;
  fronts = front_parts j Good ok g k calls;
  ends = all_outs j Good ok g k calls;
  bound = bound_ok j Good ok g k calls;
}
