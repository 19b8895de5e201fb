-- Demand 3: every accepted job, and every list of steps and deliveries.
use Rattle.std.specs.Prelude.{◌≡◌, List, ◌∷◌, true, false, ℕ}
use Rattle.rules.specs.Job.{Job, Bytes, accepted, parse}
use Rattle.rules.specs.Plan.{Row}
use Rattle.rules.specs.Machine.{blank, Machine, pipe_at, start}
use Rattle.rules.specs.Wake.{with_queued}
use Rattle.rules.specs.Drive.{again, drive, patience}
use Rattle.rules.specs.Check.{job_ok}
use Rattle.rules.specs.Scan.{says, ok, delivering}
use Rattle.rules.specs.Session.{Call}
use Rattle.rules.specs.Demand.{Demand3, Demanded}
use Rattle.laws.specs.Accepted.{job_ok_lem}
use Rattle.laws.specs.Again.{job_again}
use Rattle.laws.specs.Lone.{SameRows, lone_same}
use Rattle.order.specs.Inv.{Live}
use Rattle.order.specs.Ranged.{Ranged}
use Rattle.order.specs.Actions.{action}
use Rattle.order.specs.JobKept.{action_job}
use Rattle.order.specs.Deliver.{DeliverOk, delivering_ok}
use Rattle.order.specs.State.{Rests}
use Rattle.order.specs.Steps.{Sound, step_ok}
use Rattle.order.specs.Leaf.{leaf_ok}
use Rattle.order.specs.Measure.{measure}
use Rattle.order.specs.Bounds.{measure_bound}
use Rattle.order.specs.ActionFalls.{action_falls}
use Rattle.order.specs.Fuel.{drive_ends}
use Rattle.order.specs.Checked.{rests_check}
use Rattle.order.specs.StartRanged.{start_ranged}
use Rattle.order.specs.RangeMoves.{lives_on}
use Rattle.order.specs.RangeRun.{popped, pop_ranged}
use Rattle.order.specs.RangeAction.{action_ranged, delivering_ranged}
use Rattle.order.specs.RangingCalls.{output_turn, read_turn}
use Rattle.order.specs.Demands.{demand3}
use Rattle.order.specs.AsWritten.{demand_same}

-- a state in range whose job passes its check again
abbrev Good : Machine → Type 0
Good m = Ranged m × (job_ok m.job ≡ true)

sound : Sound Good measure
sound = record {
  checks = λ out told m v g. rests_check out told m v g.0 g.1;
  brings = brings;
  leaves = λ k s out told m i. leaf_ok k s i out told m;
  ends = ends;
  keeps = λ m m' g e f. (action_ranged m m' g.0 e, rw (action_job m m' (action m m' e).1) g.1);
  falls = λ m m' g e f. action_falls m m' g.0 e (action_ranged m m' g.0 e) f;
  few = λ m g. measure_bound m g.0;
  puts = λ m o os g e. (output_turn m o os e g.0, g.1);
  tells = λ m r rs g e. (read_turn m r rs e g.0, g.1);
}
  where
    ends : (p : ℕ) (ps : List ℕ) (m m' : Machine) → Good m → Live m.pipes p → m.ready ≡ p ∷ ps → drive patience p (popped p ps m) ≡ again m' → m'.fault ≡ true
    ends p ps m m' g l e q = rw q at (drive_ends (popped p ps m) p (pop_ranged m p ps g.0 e l) (lives_on m.pipes p p (with_queued false (pipe_at m p)) l l))

    brings : (out : ℕ → List Row) (told : ℕ) (m m' : Machine) (r n : ℕ) → Rests out told m → Good m → delivering r n m ≡ says ok m' → Good m'
    brings out told m m' r n v g e =
        let d : DeliverOk out told m v r n (says ok m') = rw e at (delivering_ok out told m v r n) in
        (rw e at (delivering_ranged r n m g.0), rw d.3 g.1)

-- what is demanded of a job as it is read,
read_demand : (bytes : List ℕ) (j : Job) → Bytes bytes → parse bytes ≡ accepted j → (calls : List Call) → Demand3 j (start j) calls
unfolding start blank
read_demand bytes j b e = demand3 j Good (job_ok_lem bytes j b e) (start_ranged j (job_ok_lem bytes j b e), job_again bytes j b e) (step_ok Good measure sound)

-- and as it is written: the theorem
pub theorem : Demanded
theorem bytes j w b e f calls =
    let s : SameRows j w = rw (e, f) at (lone_same bytes b) in
    demand_same j w s (start j) calls (read_demand bytes j b e calls)
