-- A run lowers the load, or leaves less to wake than the pipeline's place on the ready stack was worth.
use Rattle.std.specs.Prelude.{◌≡◌, ◌⊎◌, ◌||◌, ℕ, zero, suc, ◌+◌, ◌<◌, ◌≤◌}
use Rattle.std.proofs.Math.Path.{refl}
use Rattle.std.proofs.Common.{◌∙◌, inl, inr, arith}
use Rattle.std.proofs.Math.Bool.{true, false, or-true}
use Rattle.rules.specs.Machine.{Machine, source_at, stage_at, outlets}
use Rattle.rules.specs.Wake.{any_full}
use Rattle.rules.specs.Drive.{Round, again, stop, Why, is_blocked, at_outlet, done, is_over, test_source, after_test, advance_stage, round, drive, settle, run, patience}
use Rattle.laws.specs.Table.{by_bool, by_option, clash}
use Rattle.order.specs.Inv.{Live}
use Rattle.order.specs.Ranged.{Ranged}
use Rattle.order.specs.Measure.{load, wake}
use Rattle.order.specs.Pushes.{Stays}
use Rattle.order.specs.RoundFalls.{Falls, by_ready, round_falls}
use Rattle.order.specs.RangeRun.{round_ranged}
use Rattle.order.specs.Clears.{closes}
use Rattle.order.specs.Settles.{settle_any, settle_outlet, settle_blocked, settle_done}
use Rattle.order.specs.Blocks.{Blocks, blocks}
use Rattle.order.specs.Base.{by_round}

-- the round at which a run stops
abbrev Stops : Machine → ℕ → Round → Type 0
Stops m p (again m') = Unit {0}
Stops m p (stop (is_blocked b) m') = Blocks m p b m'
Stops m p (stop at_outlet m') = m' ≡ m
Stops m p (stop done m') = (load m' ≤ load m) × Stays m m' × (m'.pipes ≡ m.pipes)

module _ (m : Machine) (r : Ranged m) (p : ℕ) (is : Live m.pipes p) where
  -- the source is not ready
  after_stops : Stops m p (after_test p (test_source p (source_at m p) m))
  unfolding after_test
  after_stops = by_ready (test_source p (source_at m p) m).0
      (λ e. rw (e, after_test) tt)
      (λ b e. rw (e, after_test) (blocks m r p is b (source_at m p) refl e))

  advance_stops : Stops m p (advance_stage p (stage_at m p) m)
  advance_stops = by_bool (stage_at m p).continuing
      (λ c. rw (c, advance_stage) tt)
      (λ c. by_option (stage_at m p).finishing
      (λ f. by_bool (stage_at m p).more (λ e. rw (c, advance_stage, f, e) tt) (λ e. rw (c, advance_stage, f, e) after_stops))
      (λ n f. rw (c, advance_stage, f) tt))

  -- or the run is over, or at its outlet
  round_stops : Stops m p (round p m)
  unfolding round
  round_stops = by_bool (is_over (stage_at m p))
      (λ e. rw (e, round) (closes (outlets m p) m))
      (λ e. by_bool (any_full m p) (λ d. rw (e, round, d) refl) (λ d. rw (e, round, d) advance_stops))

-- Its last round

abbrev Last : Machine → ℕ → Round → Type 0
Last m p (again m') = Unit {0}
Last m p (stop w m') = (k : Machine) × Ranged k × Live k.pipes p × (round p k ≡ stop w m') × Stays m k × ((k ≡ m) ⊎ (load k < load m))

-- from a round before it
last_back : (m k : Machine) (p : ℕ) (r : Round) → Falls m k → Last k p r → Last m p r
last_back m k p (again m') f l = tt
last_back m k p (stop w m') f (n, r, is, e, s, o) = (n, r, is, e, (s.0 ∙ f.1.0, s.1 ∙ f.1.1), inr (less o))
  where
    less : (n ≡ k) ⊎ (load n < load k) → load n < load m
    less (inl q) = rw q f.0
    less (inr h) = omega (arith, h, f.0)

-- one round
last_next : (f : ℕ) (m : Machine) (p : ℕ) → Ranged m → Live m.pipes p → ((k : Machine) → Ranged k → Live k.pipes p → Last k p (drive f p k)) → Last m p (drive (suc f) p m)
unfolding drive
last_next f m p r is ih = by_round (round p m)
    (λ k e. by_bool k.fault
    (λ d. rw (e, drive, d) tt)
    (λ d.
    let t = round_ranged m k p r is e in
    let g = round_falls m r p is k e in
    rw (e, drive, d) (last_back m k p (drive f p k) (g.0, (g.1, g.2)) (ih k t.0 t.1))))
    (λ w k e. rw (e, drive) (m, r, is, e, (refl, refl), inl refl))

-- of any run that stops
last : (f : ℕ) (m : Machine) (p : ℕ) → Ranged m → Live m.pipes p → Last m p (drive f p m)
unfolding drive
last zero m p r is = tt
last (suc f) m p r is = last_next f m p r is (λ k s i. last f k p s i)

-- What the whole run comes to

-- less load, or no more load and less to wake than 25 more
abbrev pub Drops : Machine → Machine → Type 0
Drops m n = Stays m n × ((load n < load m) ⊎ ((load n ≤ load m) × (wake n < wake m + 25)))

-- from its last round
settle_drops : (m : Machine) → Ranged m → (p : ℕ) → Live m.pipes p → (w : Why) (k : Machine) → Stops m p (stop w k) → Drops m (settle p w k)
settle_drops m r p is (is_blocked b) k (s, e, inl h) =
    let t = settle_any p k (rw s.0 r.job) (r.pipes p is).bound (rw e is) (is_blocked b) in
    ((t.2 ∙ s.0, t.3 ∙ s.1), inl (omega (arith, t.0, h)))
settle_drops m r p is (is_blocked b) k (s, e, inr (l, v, n)) =
    let t = settle_blocked p k (rw s.0 r.job) (r.pipes p is).bound (rw e is) b n in
    ((t.2 ∙ s.0, t.3 ∙ s.1), inr (omega (arith, t.0, l), omega (arith, t.1, v)))
settle_drops m r p is at_outlet k e =
    let t = settle_outlet p m r.job (r.pipes p is).bound is in
    rw e ((t.2, t.3), inr (t.0, omega (arith, t.1)))
settle_drops m r p is done k (l, s, e) =
    let t = settle_any p k (rw s.0 r.job) (r.pipes p is).bound (rw e is) done in
    let d = settle_done p k (rw s.0 r.job) (r.pipes p is).bound (rw e is) in
    ((t.2 ∙ s.0, t.3 ∙ s.1), inl (omega (arith, d, l)))

-- and from its first
drops_from : (m k n : Machine) → Stays m k → (k ≡ m) ⊎ (load k < load m) → Drops k n → Drops m n
drops_from m k n s (inl e) d = rw e at d
drops_from m k n s (inr h) (t, inl l) = ((t.0 ∙ s.0, t.1 ∙ s.1), inl (omega (arith, h, l)))
drops_from m k n s (inr h) (t, inr l) = ((t.0 ∙ s.0, t.1 ∙ s.1), inl (omega (arith, h, l.0)))

module _ (m : Machine) (r : Ranged m) (p : ℕ) (is : Live m.pipes p) where
  -- a run that stops
  stop_drops : (w : Why) (n : Machine) → Last m p (stop w n) → Drops m (settle p w n)
  stop_drops w n (k, s, i, e, t, o) = drops_from m k (settle p w n) t o (settle_drops k s p i w n (rw e at (round_stops k s p i)))

  -- a run
  pub run_drops : (run p m).fault ≡ false → Drops m (run p m)
  unfolding run
  run_drops h = by_round (drive patience p m)
      (λ n e. let d : n.fault || true ≡ false = rw (e, run) at h in let c = or-true n.fault in clash (cc))
      (λ w n e. rw (e, run) (stop_drops w n (rw e at (last patience m p r is))))
