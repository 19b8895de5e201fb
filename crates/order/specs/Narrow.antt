-- "Jobs whose plan has fewer than 65,536 rows": whatever waits in a port of a slot is still to come out of its split, so that no more rows wait there
-- than the plan has, and the port is full at 8 batches alone, as it was before there was a limit of rows. This holds wherever the whole invariant does
-- with every outlet open: between two inner actions, and between two rounds of a run, where it is asked whether an outlet is full.
use Rattle.std.specs.Prelude.{◌≡◌, refl, true, ℕ, zero, suc, ◌+◌, ◌-◌, ◌<◌, ◌≤◌, length, drop, leb, ltb}
use Rattle.std.proofs.Common.{sym, ap, ◌∙◌, arith, length-append, ltb-true, ltb-false}
use mathlib.Core.List.{List, [], ◌∷◌, ◌++◌, map}
use Rattle.std.proofs.Math.Option.{none, some}
use Rattle.rules.specs.Table.{sum_of}
use Rattle.rules.specs.Job.{Kind, segment as aSegment, concat as aConcat, pack as aPack}
use Rattle.rules.specs.Plan.{Row, node_of, root_of, split_of, kept_rows}
use Rattle.rules.specs.Port.{Batch, batch_rows, row_sum, row_limit, is_full, capacity}
use Rattle.rules.specs.Operators.{Source, segment, concat, pack}
use Rattle.rules.specs.Machine.{Machine, Stage, place, node_at_place, slot_at_place, slot_places, queue_at}
use Rattle.rules.specs.Wake.{any_full}
use Rattle.laws.specs.Table.{by_bool, by_eq}
use Rattle.laws.specs.Rows.{All, sides, sides_length, batch_length}
use Rattle.laws.specs.KeptRuns.{runs_few}
use Rattle.laws.specs.Full.{full_few}
use Rattle.order.specs.Base.{place_of}
use Rattle.order.specs.Inv.{Live, There, port_of, shut, source_of, stage_of, inlets_of, queue_of, split_in, At, Form}
use Rattle.order.specs.Inv.{flat, still, join, pending, will, held_rows, pieces_in}
use Rattle.order.specs.State.{Inv, Busy, all}
use Rattle.order.specs.Outlets.{full_me}
use Rattle.order.specs.Rest.{claimed_above}
use Rattle.order.specs.Slot.{none_at, reader_above}
use Rattle.order.specs.Totals.{kept_length}

-- Lengths

flat_length : (q : List Batch) → length (flat q) ≡ row_sum q
unfolding sum_of
flat_length [] = refl
flat_length (b ∷ q) = length-append (batch_rows b) (flat q) ∙ rw (batch_length b, flat_length q)

-- one of the inlets that are left
join_long : (F : ℕ → List Row) (xs : List ℕ) (c i x : ℕ) → At xs i x → c ≤ i → length (F x) ≤ length (join F (drop c xs))
join_long F [] c i x a h = absurd a
join_long F (y ∷ ys) zero zero x a h = omega (arith, ap (λ (z : ℕ). length (F z)) a, length-append (F y) (join F ys))
join_long F (y ∷ ys) zero (suc i) x a h = let k = join_long F ys 0 i x a (omega arith) in omega (arith, k, length-append (F y) (join F ys))
join_long F (y ∷ ys) (suc c) zero x a h = absurd (omega arith)
join_long F (y ∷ ys) (suc c) (suc i) x a h = join_long F ys c i x a (omega arith)

-- one of several inlets side by side, all of them as long
all_at : (P : ℕ → Type 0) (xs : List ℕ) → ((i y : ℕ) → At xs i y → P y) → All P xs
all_at P [] f = tt
all_at P (x ∷ xs) f = (f 0 x refl, all_at P xs (λ i y a. f (suc i) y a))

sides_long : (F : ℕ → List Row) (xs : List ℕ) (i x : ℕ) → At xs i x → ((h y : ℕ) → At xs h y → length (F y) ≡ length (F x))
    → length (F x) ≡ length (sides (map F xs))
sides_long F [] i x a e = absurd a
sides_long F (y ∷ ys) i x a e = sym (sides_length F (length (F x)) y ys (all_at (λ z. length (F z) ≡ length (F x)) (y ∷ ys) e))

module _ (me : ℕ) (hand : List Row) (who loud freed busy : ℕ → Type 0) (out : ℕ → List Row) (told : ℕ) (m : Machine)
    (v : Inv me hand who all loud freed busy out told m) where
  -- what the pipeline at p has to write, but for what it has in hand
  abbrev coming : ℕ → List Row
  coming p =
      will v.F (pieces_in m.job p (split_in m.active (slot_at_place p))) (source_of m.sources p) (stage_of m.stages p) (inlets_of m.inlets p)

  -- is to come out of its port
  writes : (p : ℕ) → p < slot_places → Live m.pipes p → length (coming p) ≤ length (v.F p)
  writes p h l =
      let a = v.ports.alive p l h tt in
      let w : length (coming p) ≤ length (v.W p) = by_eq p me
      (λ e. let i : v.W p ≡ hand ++ coming p = rw e (v.flow.mine (rw e at h) (rw e at l)) in omega (arith, ap length i, length-append hand (coming p)))
      (λ n. omega (arith, ap length (v.flow.pipes p h l n))) in
      let f : v.F p ≡ flat (queue_of m.queues p) ++ v.W p = rw a.1 at (v.flow.port p h) in
      omega (arith, w, ap length f, length-append (flat (queue_of m.queues p)) (v.W p))

  -- nothing comes out of a port that has ended
  ended : (x : ℕ) → x < slot_places → shut m.ports x ≡ true → queue_of m.queues x ≡ [] → v.F x ≡ []
  ended x h c e = rw (c, e) at (v.flow.port x h)

  -- what is to come out of an inlet is to come out of its reader's port
  inlet_long : (p s i x : ℕ) → p < slot_places → Live m.pipes p → x < slot_places → (k : Kind) (src : Source) (st : Stage) (xs : List ℕ)
      → source_of m.sources p ≡ src → inlets_of m.inlets p ≡ xs → Form m.job p s k src st xs → At xs i x
      → length (v.F x) ≤ length (will v.F (pieces_in m.job p (split_in m.active (slot_at_place p))) src st xs)
  inlet_long p s i x h l g aSegment (segment a b e) st xs es ei o at = none_at i x xs o.0 at
  inlet_long p s i x h l g aSegment (concat c) st xs es ei o at =
      let b : slot_places ≤ x = claimed_above o.leaf s i x (rw o.is at at) in absurd (omega arith)
  inlet_long p s i x h l g aSegment pack st xs es ei o at = absurd o
  inlet_long p s i x h l g aConcat (segment a b e) st xs es ei o at = absurd o
  inlet_long p s i x h l g aConcat (concat c) st xs es ei o at =
      by_bool (ltb i c)
      (λ b. let w = v.past.before p c i x l es (rw ei at) (ltb-true i c b) in rw (ended x g w.0 w.1) (omega arith))
      (λ b. let w = join_long v.F xs c i x at (ltb-false i c b) in
      let ps = pieces_in m.job p (split_in m.active (slot_at_place p)) in
      rw o.1 (omega (arith, w, length-append (pending ps st.continuing none) (join v.F (drop c xs)))))
  inlet_long p s i x h l g aConcat pack st xs es ei o at = absurd o
  inlet_long p s i x h l g aPack (segment a b e) st xs es ei o at = absurd o
  inlet_long p s i x h l g aPack (concat c) st xs es ei o at = absurd o
  inlet_long p s i x h l g aPack pack st xs es ei o at =
      let w = sides_long v.F xs i x at (λ k y b. v.flow.even p k i y x l es (rw ei b) (rw ei at)) in omega (arith, w)

  -- of its reader's port, up to the root's, where it is among the kept rows of the split
  climb : (f x : ℕ) → x < slot_places → There m.ports x → root_of m.job < node_at_place x + f
      → (s : ℕ) × (split_in m.active (slot_at_place x) ≡ some s) × (length (v.F x) ≤ length (kept_rows m.job s))
  climb zero x h t b = let w : node_at_place x < length m.job.nodes = (v.ports.slots x h t).node in absurd (omega (arith, v.job.nodes_low))
  climb (suc f) x h t b =
      let w = v.ports.slots x h t in
      by_eq (node_at_place x) (root_of m.job)
      (λ e. let r : x ≡ place (slot_at_place x) (root_of m.job) = place_of x ∙ ap (place (slot_at_place x)) e in
      let k = length-append (out w.split ++ held_rows w.split m.outputs) (v.F (place (slot_at_place x) (root_of m.job))) in
      let a = v.splits.active (slot_at_place x) w.split w.is in
      (w.split, w.is, omega (arith, ap (λ (z : ℕ). length (v.F z)) r, ap length a, k)))
      (λ n. let r = reader_above me hand who all loud freed busy out told m v x h t n in
      let p = r.0 in
      let q = v.pipes.slots p r.1 r.2 in
      let u = climb f p r.2 (v.ports.alive p r.1 r.2 tt).0 (omega (arith, r.3.1)) in
      let l = inlet_long p q.split r.4.0 x r.2 r.1 h (node_of m.job (node_at_place p)).kind (source_of m.sources p) (stage_of m.stages p)
      (inlets_of m.inlets p) refl refl q.form r.4.1 in
      (u.0, ap (split_in m.active) r.3.0 ∙ u.1, omega (arith, l, writes p r.2 r.1, u.2)))

  -- so there are no more rows in a port than in the plan
  queue_few : (x : ℕ) → x < slot_places → There m.ports x → row_sum (queue_of m.queues x) ≤ (node_of m.job (root_of m.job)).rows
  queue_few x h t =
      let q = queue_of m.queues x in
      let r = still (shut m.ports x) (v.W x) in
      let u = climb (suc (root_of m.job)) x h t (omega arith) in
      let s = v.job.splits u.0 (omega (arith, (v.slots.active (slot_at_place x) u.0 u.1).1, v.slots.bound)) in
      let k = runs_few ((split_of m.job u.0).end - (split_of m.job u.0).start) none (split_of m.job u.0).runs (omega arith) s.runs in
      omega (arith, u.2, k, kept_length m.job u.0, s.within, flat_length q, ap length (v.flow.port x h), length-append (flat q) r)

  -- and in a job of fewer than 65,536 rows a port is full at 8 batches alone, in use or not
  pub narrow : (node_of m.job (root_of m.job)).rows < row_limit → (x : ℕ) → x < slot_places
      → is_full capacity (queue_at m x) ≡ leb capacity (length (queue_at m x))
  unfolding sum_of
  narrow n x h =
      full_few (queue_at m x)
      (by_bool (port_of m.ports x).there (λ t. omega (arith, n, queue_few x h t))
      (λ t. let e : queue_at m x ≡ [] = v.ports.absent x t in rw e (omega arith)))

-- a round's question, "Any outlet full", is answered as without a limit of rows
pub round_narrow : (me : ℕ) (hand : List Row) (out : ℕ → List Row) (told : ℕ) (m : Machine) → Busy me hand out told m
    → (node_of m.job (root_of m.job)).rows < row_limit → me < slot_places → any_full m me ≡ leb capacity (length (queue_at m me))
round_narrow me hand out told m u n h = full_me me m h ∙ narrow me hand _ _ _ _ out told m u.inv n me h
