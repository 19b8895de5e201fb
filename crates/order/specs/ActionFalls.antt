-- Every inner action of a step lowers the measure.
use Rattle.std.specs.Prelude.{◌≡◌, refl, false, List, [], ◌∷◌, ◌++◌, map, ltb}
use Rattle.std.proofs.Common.{ap, inl, inr, arith, ltb-true}
use Rattle.std.proofs.Math.Option.{none}
use Prim.Native.Nat.{ℕ, suc, ◌+◌, ◌-◌, ◌*◌, ◌^◌, ◌<◌, ◌≤◌}
use Rattle.std.proofs.Math.ListN.{length}
use Rattle.rules.specs.Table.{get, find}
use Rattle.rules.specs.Job.{Job}
use Rattle.rules.specs.Plan.{root_of}
use Rattle.rules.specs.Machine.{Machine, place, pipe_at, port_at, queue_at, live, set_queue, with_outputs, with_dirty, with_ready}
use Rattle.rules.specs.Wake.{with_queued, wake_writer}
use Rattle.rules.specs.Drive.{run}
use Rattle.rules.specs.Scan.{Inner, more, answers, empty_slot, leave, is_free, slots_of, output_of, serve, advance, run_next, activate, from_ready, from_splits, from_dirty, from_reads, inner}
use Rattle.laws.specs.Table.{by_bool, by_list, by_option}
use Rattle.order.specs.Inv.{Live}
use Rattle.order.specs.Ranged.{Ranged}
use Rattle.order.specs.Measure.{load, wake, measure, queue_less}
use Rattle.order.specs.Bounds.{load_bound, wake_bound}
use Rattle.order.specs.Pushes.{Stays}
use Rattle.order.specs.Wakings.{Near, near_then, woken_none, set_pipe_lem, writer_woken}
use Rattle.order.specs.Clears.{finish_near, slot_near}
use Rattle.order.specs.RangeRun.{popped, pop_ranged}
use Rattle.order.specs.RunFalls.{Drops, run_drops}
use Rattle.order.specs.Activates.{activate_next}

-- the measure's parts, the first of which counts most
lex_load : (a b l k w v : ℕ) → a ≡ b → l < k → w < 2 ^ 20 → (a * 2 ^ 26 + l) * 2 ^ 20 + w < (b * 2 ^ 26 + k) * 2 ^ 20 + v
lex_load a b l k w v e h i = omega arith

lex_wake : (a b l k w v : ℕ) → a ≡ b → l ≤ k → w < v → (a * 2 ^ 26 + l) * 2 ^ 20 + w < (b * 2 ^ 26 + k) * 2 ^ 20 + v
lex_wake a b l k w v e h i = omega arith

lex_next : (a b l k w v : ℕ) → a < b → l < 2 ^ 26 → w < 2 ^ 20 → (a * 2 ^ 26 + l) * 2 ^ 20 + w < (b * 2 ^ 26 + k) * 2 ^ 20 + v
lex_next a b l k w v e h i = omega arith

-- splits to come
abbrev ahead : Machine → ℕ
ahead m = length m.job.splits - m.next

ahead_same : (m n : Machine) → Stays m n → ahead n ≡ ahead m
ahead_same m n s =
    let a : length n.job.splits ≡ length m.job.splits = ap (λ (j : Job). length j.splits) s.0 in
    let b = s.1 in
    omega (arith, a, b)

-- less load
less_load : (m n : Machine) → Stays m n → load n < load m → wake n < 2 ^ 20 → measure n < measure m
less_load m n s h i = lex_load (ahead n) (ahead m) (load n) (load m) (wake n) (wake m) (ahead_same m n s) h i

-- or as much, and less to wake
less_wake : (m n : Machine) → Stays m n → load n ≤ load m → wake n < wake m → measure n < measure m
less_wake m n s h i = lex_wake (ahead n) (ahead m) (load n) (load m) (wake n) (wake m) (ahead_same m n s) h i

-- A dirty slot's turn

-- one writer may be woken
serve_near : (k s x : ℕ) (m : Machine) → Near 1 m (serve k s x m)
unfolding serve
serve_near k s x m =
    let a : Machine = set_queue x [] (with_outputs (m.outputs ++ map (output_of s) (queue_at m x)) m) in
    let b : Machine = wake_writer x a in
    let c : Machine = empty_slot k b in
    let u = writer_woken x a in
    let t : Near 1 m b = (omega (arith, u.0.0, queue_less m.queues x [] (omega arith)), u.0.1, u.0.2, u.0.3, u.0.4) in
    by_bool (port_at m x).closed
    (λ e. rw (e, serve) (near_then 1 0 1 m b (leave k s b) t (near_then 0 0 0 b c (leave k s b) (slot_near k b) (finish_near s c) (omega arith))
    (omega arith)))
    (λ e. rw (e, serve) t)

advance_near : (k : ℕ) (m : Machine) → Near 1 m (advance k m)
unfolding advance
advance_near k m = by_option (get none m.active k)
    (λ e. rw (e, advance) (woken_none 1 m).0)
    (λ s e. rw (e, advance) (serve_near k s (place k (root_of m.job)) m))

-- The newest ready pipeline

-- what an inner action leaves
abbrev pub Lower : ℕ → Inner → Type 0
Lower c (answers a) = Unit {0}
Lower c (more n) = Ranged n → n.fault ≡ false → measure n < c

-- below c
up_to : (a b c : ℕ) → a < b → b ≤ c → a < c
up_to a b c h i = omega arith

module _ (m : Machine) (r : Ranged m) (c : ℕ) (top : measure m ≤ c) where
  below : (n : Machine) → measure n < measure m → measure n < c
  below n h = up_to (measure n) (measure m) c h top

  -- it runs
  run_lower : (p : ℕ) (ps : List ℕ) → m.ready ≡ p ∷ ps → Live m.pipes p → Lower c (more (run p (popped p ps m)))
  run_lower p ps q is ranged h =
      let k : Machine = popped p ps m in
      let t = set_pipe_lem 0 p (with_queued false (pipe_at m p)) (with_ready ps m) refl (omega arith) in
      let e : length m.ready ≡ suc (length ps) = rw q in
      by (run_drops k (pop_ranged m p ps r q is) p (t.2 p is) h) (wake_bound (run p k) ranged) t.0.0 (omega (arith, t.0.1, e))
    where
      by : Drops (popped p ps m) (run p (popped p ps m)) → wake (run p (popped p ps m)) < 2 ^ 20 → load (popped p ps m) ≤ load m → wake (popped p ps m) + 25 ≤ wake m
          → measure (run p (popped p ps m)) < c
      by (s, inl l) w a b = below (run p (popped p ps m)) (less_load m (run p (popped p ps m)) s (omega (arith, l, a)) w)
      by (s, inr l) w a b = below (run p (popped p ps m)) (less_wake m (run p (popped p ps m)) s (omega (arith, l.0, a)) (omega (arith, l.1, b)))

  -- or it lives no more
  ready_lower : (p : ℕ) (ps : List ℕ) → m.ready ≡ p ∷ ps → Lower c (more (run_next p ps m))
  unfolding run_next
  ready_lower p ps q = by_bool (live m p)
      (λ e. rw (e, run_next) (run_lower p ps q e))
      (λ e. rw (e, run_next) (λ ranged h. let d : length m.ready ≡ suc (length ps) = rw q in below (with_ready ps m) (less_wake m (with_ready ps m) (refl, refl) (omega arith) (omega (arith, d)))))

  from_ready_lem : Lower c (from_ready m)
  unfolding from_ready
  from_ready_lem = by_list m.ready (λ e. rw (e, from_ready) tt) (λ p ps e. rw (e, from_ready) (ready_lower p ps e))

  -- the next split
  activate_lower : (k : ℕ) → m.next < length m.job.splits → Lower c (more (activate k m))
  activate_lower k l ranged h =
      let n : Machine = activate k m in
      let t = activate_next k m in
      let a : length n.job.splits ≡ length m.job.splits = ap (λ (j : Job). length j.splits) t.0 in
      below n (lex_next (ahead n) (ahead m) (load n) (load m) (wake n) (wake m) (omega (arith, a, t.1, l)) (load_bound n ranged) (wake_bound n ranged))

  from_splits_lem : Lower c (from_splits m)
  unfolding from_splits
  from_splits_lem = by_bool (ltb m.next (length m.job.splits))
      (λ e. by_option (find (is_free m) (slots_of m))
      (λ d. rw (e, from_splits, d) from_ready_lem)
      (λ k d. rw (e, from_splits, d) (activate_lower k (ltb-true m.next (length m.job.splits) e))))
      (λ e. rw (e, from_splits) from_ready_lem)

  -- a dirty slot's turn
  dirty_lower : (k : ℕ) (ks : List ℕ) → m.dirty ≡ k ∷ ks → Lower c (more (advance k (with_dirty ks m)))
  dirty_lower k ks q ranged h =
      let t = advance_near k (with_dirty ks m) in
      let d : length m.dirty ≡ suc (length ks) = rw q in
      below (advance k (with_dirty ks m)) (less_wake m (advance k (with_dirty ks m)) (t.2, t.3) t.0 (omega (arith, t.1, d)))

  from_dirty_lem : Lower c (from_dirty m)
  unfolding from_dirty
  from_dirty_lem = by_list m.dirty (λ e. rw (e, from_dirty) from_splits_lem) (λ k ks e. rw (e, from_dirty) (dirty_lower k ks e))

  -- any of them
  inner_lower : Lower c (inner m)
  unfolding inner from_reads
  inner_lower = by_list m.outputs
      (λ e. by_list m.news (λ d. rw (e, inner, d, from_reads) from_dirty_lem) (λ x xs d. rw (e, inner, d, from_reads) tt))
      (λ o os e. rw (e, inner) tt)

-- every inner action lowers the measure
pub action_falls : (m m' : Machine) → Ranged m → inner m ≡ more m' → Ranged m' → m'.fault ≡ false → measure m' < measure m
action_falls m m' r e = let t : Lower (measure m) (more m') = rw e at (inner_lower m r (measure m) (omega arith)) in t
