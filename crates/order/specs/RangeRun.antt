-- `Ranged` is kept by a round, by a run and by the run of the newest ready pipeline, from any state.
use Rattle.std.specs.Prelude.{◌≡◌, refl, false, List, [], ◌∷◌, ℕ, zero, suc, ◌<◌, length}
use Rattle.std.proofs.Common.{arith}
use Rattle.rules.specs.Machine.{set_pipe, Machine, pipe_at, live, with_ready}
use Rattle.rules.specs.Wake.{with_queued, make_runnable, wake_writer}
use Rattle.rules.specs.Pipelines.{retire}
use Rattle.rules.specs.Drive.{Why, Round, again, stop, round, drive, settle, patience, run}
use Rattle.rules.specs.Scan.{run_next}
use Rattle.laws.specs.Table.{by_bool}
use Rattle.order.specs.Inv.{Live}
use Rattle.order.specs.Ranged.{Ranged}
use Rattle.order.specs.RangeParts.{Fits}
use Rattle.order.specs.RangeFits.{fits, ranged}
use Rattle.order.specs.RangeMoves.{set_pipe_lem, with_ready_lem, lives_on}
use Rattle.order.specs.RangeWake.{runnable_fits, writer_fits}
use Rattle.order.specs.RangeRetire.{retire_fits}
use Rattle.order.specs.RangeRound.{WhyFits, RoundFits, round_fits}
use Rattle.order.specs.RangeSettle.{settle_fits}

-- Rounds

-- a round after which the run goes on
pub round_ranged : (m m' : Machine) (p : ℕ) → Ranged m → Live m.pipes p → round p m ≡ again m' → Ranged m' × Live m'.pipes p × (m'.news ≡ m.news) × (m'.dirty ≡ m.dirty)
round_ranged m m' p r l e =
    let t : RoundFits m p (again m') = rw e at (round_fits m p (fits m r) l) in
    (ranged m' t.0, rw t.1.1 l, t.1.2, t.1.3)

-- one at which it stops: there is place to tell of a read
pub round_stops : (m m' : Machine) (p : ℕ) (w : Why) → Ranged m → Live m.pipes p → length m.news < 24 → round p m ≡ stop w m'
    → Ranged m' × Live m'.pipes p × (m'.dirty ≡ m.dirty) × WhyFits m' p w
round_stops m m' p w r l n e =
    let t : RoundFits m p (stop w m') = rw e at (round_fits m p (fits m r) l) in
    (ranged m' (t.0 n), rw t.1 l, t.2, t.3)

-- Runs

abbrev pub DriveFits : ℕ → Round → Type 0
DriveFits p (again m) = Fits m
DriveFits p (stop w m) = Fits m × Live m.pipes p × (length m.dirty < 3) × WhyFits m p w

-- after one round
drive_next : (f p : ℕ) (m : Machine) (r : Round) → round p m ≡ r → RoundFits m p r → Live m.pipes p → length m.news < 24 → length m.dirty < 3
    → ((n : Machine) → Fits n → Live n.pipes p → length n.news < 24 → length n.dirty < 3 → DriveFits p (drive f p n)) → DriveFits p (drive (suc f) p m)
unfolding drive
drive_next f p m (stop w n) e t l s d ih =
    let k = t.1 in
    let z = t.2 in
    rw (e, drive) (t.0 s, rw k l, rw z d, t.3)
drive_next f p m (again n) e t l s d ih =
    let k = t.1.1 in
    let y = t.1.2 in
    let z = t.1.3 in
    by_bool n.fault (λ q. rw (e, drive, q) t.0) (λ q. rw (e, drive, q) (ih n t.0 (rw k l) (rw y s) (rw z d)))

pub drive_fits : (f p : ℕ) (m : Machine) → Fits m → Live m.pipes p → length m.news < 24 → length m.dirty < 3 → DriveFits p (drive f p m)
unfolding drive
drive_fits zero p m t l s d = t
drive_fits (suc f) p m t l s d = drive_next f p m (round p m) refl (round_fits m p t l) l s d (λ n. drive_fits f p n)

run_next_lem : (p : ℕ) (m : Machine) (r : Round) → drive patience p m ≡ r → DriveFits p r → Fits (run p m)
unfolding run
run_next_lem p m (again n) e t = rw (e, run) t
run_next_lem p m (stop w n) e t = rw (e, run) (settle_fits n p w t.0 t.1 t.3 t.2)

pub run_fits : (p : ℕ) (m : Machine) → Fits m → Live m.pipes p → length m.news < 24 → length m.dirty < 3 → Fits (run p m)
run_fits p m t l s d = run_next_lem p m (drive patience p m) refl (drive_fits patience p m t l s d)

-- The newest ready pipeline

pop_fits : (p : ℕ) (ps : List ℕ) (m : Machine) → Fits m → m.ready ≡ p ∷ ps → Fits (with_ready ps m)
pop_fits p ps m t e =
    let z = rw e at t.ready in
    with_ready_lem m ps t (omega (arith, z.0), z.1.1)

-- it leaves the ready stack
abbrev pub popped : ℕ → List ℕ → Machine → Machine
popped p ps m = set_pipe p (with_queued false (pipe_at m p)) (with_ready ps m)

take_fits : (p : ℕ) (ps : List ℕ) (m : Machine) → Fits m → m.ready ≡ p ∷ ps → Live m.pipes p → Fits (popped p ps m)
take_fits p ps m t e l = set_pipe_lem (with_ready ps m) p (with_queued false (pipe_at m p)) (pop_fits p ps m t e) l l refl (t.pipes p l).state

next_fits : (p : ℕ) (ps : List ℕ) (m : Machine) → Fits m → m.ready ≡ p ∷ ps → length m.news < 24 → length m.dirty < 3 → Fits (run_next p ps m)
unfolding run_next
next_fits p ps m t e s d = by_bool (live m p)
    (λ l. rw (l, run_next) (run_fits p (popped p ps m) (take_fits p ps m t e l) (lives_on m.pipes p p (with_queued false (pipe_at m p)) l l) s d))
    (λ l. rw (l, run_next) (pop_fits p ps m t e))

pub pop_ranged : (m : Machine) (p : ℕ) (ps : List ℕ) → Ranged m → m.ready ≡ p ∷ ps → Live m.pipes p → Ranged (popped p ps m)
pop_ranged m p ps r e l = ranged (popped p ps m) (take_fits p ps m (fits m r) e l)

pub next_ranged : (p : ℕ) (ps : List ℕ) (m : Machine) → Ranged m → m.ready ≡ p ∷ ps → length m.news < 24 → length m.dirty < 3 → Ranged (run_next p ps m)
next_ranged p ps m r e s d = ranged (run_next p ps m) (next_fits p ps m (fits m r) e s d)

-- a run within a step: no read to be told and no dirty slot
pub run_ranged : (p : ℕ) (ps : List ℕ) (m : Machine) → Ranged m → m.ready ≡ p ∷ ps → m.dirty ≡ [] → m.news ≡ [] → Ranged (run_next p ps m)
run_ranged p ps m r e d n = next_ranged p ps m r e (rw n (omega arith)) (rw d (omega arith))

-- Moves that other actions make too

pub settle_ranged : (m : Machine) (p : ℕ) (w : Why) → Ranged m → Live m.pipes p → WhyFits m p w → length m.dirty < 3 → Ranged (settle p w m)
settle_ranged m p w r l h d = ranged (settle p w m) (settle_fits m p w (fits m r) l h d)

pub retire_ranged : (m : Machine) (p : ℕ) → Ranged m → Live m.pipes p → Ranged (retire p m)
retire_ranged m p r l = ranged (retire p m) (retire_fits m p (fits m r) l)

pub runnable_ranged : (m : Machine) (p : ℕ) → Ranged m → Live m.pipes p → Ranged (make_runnable p m)
runnable_ranged m p r l = ranged (make_runnable p m) (runnable_fits m p (fits m r) l)

pub writer_ranged : (m : Machine) (x : ℕ) → Ranged m → Ranged (wake_writer x m)
writer_ranged m x r = ranged (wake_writer x m) (writer_fits m x (fits m r))
