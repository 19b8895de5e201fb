-- A source that is not ready: it has asked now, or it only looked at inlets.
use Rattle.std.specs.Prelude.{◌≡◌, refl, ◌⊎◌, true, false, List, [], ◌∷◌, ℕ, suc, ◌+◌, ◌-◌, ◌<◌, ◌≤◌, min, length, leb}
use Rattle.std.proofs.Common.{inl, inr, arith}
use Rattle.rules.specs.Table.{get, has}
use Rattle.rules.specs.InletSet.{InletSet, insert, insert_all}
use Rattle.rules.specs.Operators.{Blocked, io, stays, Source, segment, concat, pack, concat_at}
use Rattle.rules.specs.Machine.{Machine, places, max_reads, source_at, inlets_at, shows, set_source, set_changed}
use Rattle.rules.specs.Drive.{has_bytes, ask, touch, looked, observe, observe_all, test_source}
use Rattle.laws.specs.Table.{by_bool, same, clash}
use Rattle.order.specs.Inv.{Live}
use Rattle.order.specs.Ranged.{Ranged}
use Rattle.order.specs.Measure.{run_weight, source_left, run_count, load, wake, source_change, touched_change}
use Rattle.order.specs.Fed.{inlets_few}
use Rattle.order.specs.Bounds.{set_few}
use Rattle.order.specs.Pushes.{Stays}
use Rattle.order.specs.Takes.{observe_frame, observe_load}
use Rattle.order.specs.Lists.{up_length}

-- Sets that grow

insert_most : (i : ℕ) (s : InletSet) → length (insert i s) ≤ suc (length s)
insert_most i s = by_bool (has i s) (λ e. rw (e, insert) (omega arith)) (λ e. rw (e, insert) (omega arith))

inserts_most : (is : List ℕ) (s : InletSet) → length (insert_all is s) ≤ length is + length s
unfolding insert_all
inserts_most [] s = omega arith
inserts_most (i ∷ is) s = omega (arith, inserts_most is (insert i s), insert_most i s)

-- inlets touched
touch_most : (p : ℕ) (is : List ℕ) (m : Machine) → p < places → Live m.pipes p → wake (touch p is m) ≤ wake m + length is
touch_most p is m low l =
    let c = touched_change m.pipes m.touched p (insert_all is (get [] m.touched p)) low l in
    omega (arith, c, inserts_most is (get [] m.touched p))

-- inlets looked at
observe_most : (p : ℕ) (is : List ℕ) (m : Machine) → p < places → Live m.pipes p → wake (observe_all p is m) ≤ wake m + length is
unfolding observe_all
observe_most p [] m low l = omega arith
observe_most p (i ∷ is) m low l =
    let t = observe_most p is (observe p i m) low l in
    omega (arith, t, touch_most p (i ∷ []) m low l)

-- the pipelines are the same; there is less load, or at most 23 inlets were touched and no bytes wait
abbrev pub Blocks : Machine → ℕ → Blocked → Machine → Type 0
Blocks m p b k =
    Stays m k × (k.pipes ≡ m.pipes) × ((load k < load m) ⊎ ((load k ≤ load m) × (wake k ≤ wake m + 23) × (b ≡ io → has_bytes (source_at k p) ≡ false)))

-- a read that is asked for
asked : (p : ℕ) (k : Machine) → (load (ask p k) ≡ load k) × Stays k (ask p k) × ((ask p k).pipes ≡ k.pipes)
unfolding ask
asked p k = by_bool (leb max_reads (length k.reads)) (λ e. rw (e, ask) (refl, (refl, refl), refl)) (λ e. rw (e, ask) (refl, (refl, refl), refl))

module _ (m : Machine) (r : Ranged m) (p : ℕ) (is : Live m.pipes p) (b : Blocked) where
  -- a source that is not ready
  pub blocks : (s : Source) → source_at m p ≡ s → (test_source p s m).0 ≡ stays b → Blocks m p b (set_changed p [] (test_source p s m).1)
  blocks (segment true true e) q h = clash (cc)
  blocks (segment true false e) q h = ((refl, refl), refl, inr (omega arith, omega arith, λ d. rw q))
  blocks (segment false y e) q h =
      let k : Machine = set_source p (segment true y e) m in
      let c = source_change (run_count m) m.pipes m.sources m.stages p (r.pipes p is).bound is (segment true y e) in
      let d : source_left (run_weight p) (run_count m p) (source_at m p) ≡ source_left (run_weight p) (run_count m p) (segment false y e) = rw q in
      let a = asked p k in
      (a.1, a.2, inl (omega (arith, a.0, c, d)))
  blocks (concat i) q h =
      let j = concat_at (shows m p) (length (inlets_at m p) - i) i in
      let k : Machine = set_source p (concat j) m in
      let c = source_change (run_count m) m.pipes m.sources m.stages p (r.pipes p is).bound is (concat j) in
      let d : source_left (run_weight p) (run_count m p) (source_at m p) ≡ 0 = rw q in
      let t = touch_most p (looked (length (inlets_at m p)) i j) k (r.pipes p is).bound is in
      let l = up_length i (min (suc j) (length (inlets_at m p)) - i) in
      let n : length (looked (length (inlets_at m p)) i j) ≤ 23 = omega (arith, l, inlets_few m r p is) in
      ((refl, refl), refl, inr (omega (arith, c, d), omega (arith, t, n), λ e. rw same))
  blocks pack q h =
      let f = observe_frame p (get [] m.changed p) m in
      let t = observe_most p (get [] m.changed p) m (r.pipes p is).bound is in
      let n = set_few (length (inlets_at m p)) (get [] m.changed p) (r.pipes p is).changed in
      ((f.job, f.next), f.pipes, inr (omega (arith, observe_load p (get [] m.changed p) m), omega (arith, t, n, inlets_few m r p is), λ e. rw (f.sources, q)))
