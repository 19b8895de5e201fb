-- What a run leaves is in range, and so is each state on the way through what follows it.
use Rattle.std.specs.Prelude.{◌≡◌, true, ℕ, ◌<◌, length}
use Rattle.rules.specs.Operators.{outlet}
use Rattle.rules.specs.Machine.{Machine, port_places, inlets_at, fault_if}
use Rattle.rules.specs.Wake.{set_state}
use Rattle.rules.specs.Pipelines.{retire}
use Rattle.rules.specs.Drive.{Why, is_blocked, at_outlet, done, again, stop, drive, patience, set_stopped, wake_neighbours, settle, run}
use Rattle.operator.specs.declared.answer.SourceBlocked.{SourceBlocked}
use Rattle.operator.specs.Answer.{blocked_of}
use Rattle.laws.specs.Rows.{All}
use Rattle.order.specs.Inv.{Live}
use Rattle.order.specs.RangeParts.{Fits}
use Rattle.order.specs.RangeFits.{fits}
use Rattle.order.specs.RangeWake.{woken_live}
use Rattle.order.specs.RangeRetire.{inlets_bound}
use Rattle.order.specs.RangeSettle.{stopped_fits, stopped_woken, stopped_dirty, neighbours_fits, neighbours_woken}
use Rattle.order.specs.RangeRun.{DriveFits, drive_fits}
use Rattle.driver.specs.declared.rounds.Progress.{Progress}
use Rattle.driver.specs.declared.rounds.Progress.TheVariants as progress
use Rattle.driver.specs.Run.{Runs, round_of}

-- where neighbours can be woken
abbrev pub Wakes : ℕ → Machine → Type 0
Wakes p m = Fits m × (Live m.pipes p × (length m.dirty < 3))

-- once the state is set
pub stopped_wakes : (p : ℕ) (w : Why) (m n : Machine) → DriveFits p (stop w m) → n ≡ set_stopped p w m → Wakes p n
stopped_wakes p w m n d e =
    let z : length (set_stopped p w m).dirty < 3 = rw (stopped_dirty m p w) d.2 in
    rw e (stopped_fits m p w d.0 d.1 d.3, (woken_live m (set_stopped p w m) p (stopped_woken m p w) d.1, z))

-- At an outlet

pub outlet_wakes : (p : ℕ) (m n : Machine) → DriveFits p (stop at_outlet m) → n ≡ set_state p outlet m → Wakes p n
unfolding set_stopped
outlet_wakes p m n d e = stopped_wakes p at_outlet m n d e

pub outlet_settles : (p : ℕ) (m n k : Machine) → n ≡ set_state p outlet m → k ≡ wake_neighbours p n → k ≡ settle p at_outlet m
unfolding set_stopped
outlet_settles p m n k e d = rw (d, e)

-- Done

pub done_wakes : (p : ℕ) (m : Machine) → DriveFits p (stop done m) → Wakes p m
done_wakes p m d = (d.0, (d.1, d.2))

-- the inlets of the pipeline, once its neighbours are woken
pub done_inlets : (p : ℕ) (m n : Machine) → DriveFits p (stop done m) → n ≡ wake_neighbours p m → All (λ x. x < port_places) (inlets_at n p)
done_inlets p m n d e = rw e (inlets_bound (wake_neighbours p m) p (neighbours_fits m p d.0 d.1 d.2)
    (woken_live m (wake_neighbours p m) p (neighbours_woken m p) d.1))

pub done_settles : (p : ℕ) (m n k : Machine) → n ≡ wake_neighbours p m → k ≡ retire p n → k ≡ settle p done m
unfolding set_stopped
done_settles p m n k e d = rw (d, e)

-- A run that gave the answer r, which is q

module _ (p : ℕ) (r q : Progress) (m n : Machine) (i : r ≡ q) (e : drive patience p m ≡ round_of r n) where
  said : drive patience p m ≡ round_of q n
  said = rw i at e

  pub run_leaves : Runs p m → length m.dirty < 3 → DriveFits p (round_of q n)
  run_leaves a d = rw said at (drive_fits patience p m (fits m a.ranged) a.live a.news d)

stops : (p : ℕ) (w : Why) (m n k : Machine) → drive patience p m ≡ stop w n → k ≡ settle p w n → k ≡ run p m
unfolding run
stops p w m n k e d = rw (d, e, run)

fails : (p : ℕ) (m n k : Machine) → drive patience p m ≡ again n → k ≡ fault_if true n → k ≡ run p m
unfolding run
fails p m n k e d = rw (d, e, run)

-- what the run comes to, by the answer
module _ (p : ℕ) (r : Progress) (m n k : Machine) where
  pub run_blocked : (b : SourceBlocked) → r ≡ progress.Blocked b → drive patience p m ≡ round_of r n → k ≡ settle p (is_blocked (blocked_of b)) n → k ≡ run p m
  run_blocked b i e d = stops p (is_blocked (blocked_of b)) m n k (said p r (progress.Blocked b) m n i e) d

  pub run_outlet : r ≡ progress.Outlet → drive patience p m ≡ round_of r n → k ≡ settle p at_outlet n → k ≡ run p m
  run_outlet i e d = stops p at_outlet m n k (said p r progress.Outlet m n i e) d

  pub run_done : r ≡ progress.Done → drive patience p m ≡ round_of r n → k ≡ settle p done n → k ≡ run p m
  run_done i e d = stops p done m n k (said p r progress.Done m n i e) d

  pub run_failed : r ≡ progress.Failed → drive patience p m ≡ round_of r n → k ≡ fault_if true n → k ≡ run p m
  run_failed i e d = fails p m n k (said p r progress.Failed m n i e) d
