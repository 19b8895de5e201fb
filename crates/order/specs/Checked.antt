-- At rest every reference answers: pipelines, ports and queues, and so all of check 12.
use Rattle.std.specs.Prelude.{◌≡◌, refl, ◌≢◌, ◌⊎◌, not, ◌||◌, ℕ, suc, ◌+◌, ◌-◌, ◌/◌, ◌%◌, ◌<◌, ◌≤◌, length, leb}
use Rattle.std.proofs.Common.{sym, ap, inl, inr, lt-ltb, le-leb, leb-true, leb-false, eq-eqb, ne_eqb}
use Rattle.std.proofs.Math.Bool.{true, false}
use mathlib.Core.List.{List, [], ◌∷◌}
use native.Mathlib.Omega.{arith}
use Rattle.std.proofs.lemmas.Bool.{lt-leb}
use Rattle.rules.specs.Table.{all}
use Rattle.rules.specs.Plan.{Row, node_of, root_of, leaves_of}
use Rattle.rules.specs.Port.{Batch}
use Rattle.rules.specs.Machine.{Machine, Reader, nobody, slot, pipe, no_pipe, no_port, place, node_at_place, slot_at_place, is_share_port, slot_places, port_places, port_at, queue_at}
use Rattle.rules.specs.Ports.{is_nobody}
use Rattle.rules.specs.Check.{check, job_ok, inlets_live, outlet_live, pipe_ok, reader_ok, bounded_ok, has_source, shared_ok, whole_batch, port_ok, queue_ok}
use Rattle.laws.specs.Table.{by_bool, by_list, clash, and_both}
use Rattle.order.specs.Inv.{Live, There, pipe_of, port_of, reader_of, inlets_of, queue_of, At, SlotPort, Sources, whole}
use Rattle.order.specs.State.{Rests}
use Rattle.order.specs.Base.{place_of, at_below, at_get}
use Rattle.order.specs.Each.{all_true, each_true, or_first}
use Rattle.order.specs.Among.{any_one}
use Rattle.order.specs.Outlets.{leaf_among}
use Rattle.order.specs.Answers.{place_ok_lem, counts_ok_lem, lists_ok_lem}
use Rattle.order.specs.Ranged.{PipeRange, ReaderRange, Ranged}

-- cases of a reader, with the equation
module _ {ℓ} {P : Type ℓ} where
  abbrev by_reader : (r : Reader) → (r ≡ nobody → P) → (r ≡ slot → P) → ((p i : ℕ) → r ≡ pipe p i → P) → P
  by_reader nobody n s f = n refl
  by_reader slot n s f = s refl
  by_reader (pipe p i) n s f = f p i refl

-- Pipelines

-- every inlet from number i on names the pipeline and the inlet
inlets_live_lem : (m : Machine) (p i : ℕ) (xs : List ℕ) → ((k x : ℕ) → At xs k x → There m.ports x × (reader_of m.ports x ≡ pipe p (i + k))) → inlets_live m p i xs ≡ true
unfolding inlets_live
inlets_live_lem m p i [] h = refl
inlets_live_lem m p i (x ∷ xs) h =
    let e : i + 0 ≡ i = omega arith in
    let a = h 0 x refl in
    let q : reader_of m.ports x ≡ pipe p i = rw e at a.1 in
    and_both _ _ (and_both _ _ a.0 (rw q (and_both _ _ (eq-eqb p p refl) (eq-eqb i i refl))))
    (inlets_live_lem m p (suc i) xs (λ k y b. let e : suc i + k ≡ i + suc k = omega arith in rw e (h (suc k) y b)))

module _ (out : ℕ → List Row) (told : ℕ) (m : Machine) (v : Rests out told m) (r : Ranged m) where
  outlet_live_lem : (p : ℕ) → Live m.pipes p → outlet_live m p ≡ true
  outlet_live_lem p l = or_first (leb slot_places p) _
      (λ e. let a = v.ports.alive p l (leb-false slot_places p e) tt in and_both _ _ a.0 (rw a.1))

  pipe_ok_lem : (p : ℕ) → pipe_ok m p (pipe_of m.pipes p) ≡ true
  unfolding pipe_ok
  pipe_ok_lem p = by_bool (pipe_of m.pipes p).live (λ l. let c : PipeRange m p = r.pipes p l in
      rw (l, pipe_ok) (and_both _ _ (and_both _ _ (and_both _ _ (and_both _ _ (and_both _ _ (and_both _ _ (and_both _ _ (and_both _ _
      (place_ok_lem m p c.place) (lt-ltb _ _ c.number)) c.source) c.stage) c.state) c.changed) c.touched)
      (inlets_live_lem m p 0 (inlets_of m.inlets p) (λ k x a. let e : 0 + k ≡ k = omega arith in rw e (v.ports.inlets p k x l a))))
      (outlet_live_lem p l)))
      (λ l. rw (l, pipe_ok))

  -- Ports

  -- a port of the root is read by its slot
  not_root : (x p i : ℕ) → x < slot_places → There m.ports x → reader_of m.ports x ≡ pipe p i → node_at_place x ≢ root_of m.job
  not_root x p i h t e n =
      let s : SlotPort m.job m.active m.ports x = v.ports.slots x h t in
      let q : place (slot_at_place x) (root_of m.job) ≡ x = rw (← n) (sym (place_of x)) in
      clash (cc (e, rw q at (v.ports.roots (slot_at_place x) s.split s.is).1))

  reader_ok_lem : (x : ℕ) → There m.ports x → ReaderRange m x (reader_of m.ports x) → reader_ok m x (reader_of m.ports x) ≡ true
  reader_ok_lem x t c = by_reader (reader_of m.ports x)
      (λ e. rw e (by_bool (is_share_port x) (λ z. z) (λ z. absurd ((v.ports.slots x (leb-false slot_places x z) t).read e))))
      (λ e. let d : (x < slot_places) × (node_at_place x ≡ root_of m.job) = rw e at c in
      rw e (and_both _ _ (ap not (lt-leb slot_places x d.0)) (eq-eqb _ _ d.1)))
      (λ p i e. let d : (p < slot_places) × Live m.pipes p × At (inlets_of m.inlets p) i x = rw e at c in
      rw e (and_both _ _ (and_both _ _ (lt-ltb _ _ d.0)
      (and_both _ _ (and_both _ _ d.1 (lt-ltb _ _ (at_below (inlets_of m.inlets p) i x d.2))) (eq-eqb _ _ (at_get port_places (inlets_of m.inlets p) i x d.2))))
      (or_first (is_share_port x) _ (λ z. rw (ne_eqb (node_at_place x) (root_of m.job) (not_root x p i (leb-false slot_places x z) t e))))))

  bounded_ok_lem : (x : ℕ) → x < slot_places → There m.ports x → bounded_ok m x ≡ true
  bounded_ok_lem x h t =
      let q = (r.queues x).bounded h in
      and_both _ _ (and_both _ _ (and_both _ _ (place_ok_lem m x ((r.ports x t).place h)) (or_first (port_at m x).closed _ (λ e. v.ports.opens x h t e)))
      (le-leb _ _ q.0)) (all_true _ (queue_at m x) q.1)

  -- what is queued at a shared port
  whole_ok : (q : List Batch) (l : ℕ) → (q ≡ []) ⊎ ((q ≡ whole m.job l ∷ []) × (1 ≤ (node_of m.job l).rows)) → (leb (length q) 1 ≡ true) × (all (whole_batch m l) q ≡ true)
  unfolding all
  whole_ok q l (inl e) = rw e (refl, refl)
  whole_ok q l (inr e) = rw e.0 (refl, and_both _ _ (and_both _ _ (and_both _ _ (and_both _ _ (eq-eqb (node_of m.job l).rows _ refl) (lt-ltb _ _ e.1)) (and_both _ _ (and_both _ _ (eq-eqb (node_of m.job l).segment _ refl) refl) refl)) refl) refl)

  -- a live source of a leaf's segment
  has_source_lem : (l p : ℕ) → Sources m.job m.pipes l p → has_source m l ≡ true
  unfolding has_source
  has_source_lem l p s =
      let c = r.pipes p s.0 in
      let e : slot_places + node_at_place p ≡ p = omega (arith, c.bound, s.1) in
      any_one _ (leaves_of m.job l) (node_at_place p) (leaf_among m.job l (node_at_place p) (c.place.2 s.1) s.2) (rw e s.0)

  shared_ok_lem : (x : ℕ) → slot_places ≤ x → There m.ports x → shared_ok m x ≡ true
  shared_ok_lem x h t =
      let i = v.shares.ports x h t in
      let c = (r.ports x t).share h in
      let w : c.1 < 16 = omega (arith, c.3, r.job.splits_high) in
      let a : (x - slot_places) / 16 ≡ c.0 = omega (arith, c.2) in
      let b : (x - slot_places) % 16 ≡ c.1 = omega (arith, c.2) in
      let q = whole_ok (queue_at m x) c.0 ((r.queues x).share c.0 c.1 w c.2) in
      let f : i.leaf ≡ c.0 = omega (arith, c.2, i.is, i.below, r.job.splits_high) in
      let o : (port_at m x).closed || has_source m c.0 ≡ true = or_first (port_at m x).closed _
      (λ e. let w = i.opens e in rw (← f) (has_source_lem i.leaf w.0 w.1)) in
      rw (a, b) (and_both _ _ (and_both _ _ (and_both _ _ (and_both _ _ c.4 (lt-ltb _ _ c.3)) o) q.0) q.1)

  port_ok_lem : (x : ℕ) → port_ok m x (port_of m.ports x) ≡ true
  unfolding port_ok
  port_ok_lem x = by_bool (port_of m.ports x).there
      (λ t. rw (t, port_ok) (and_both _ _ (reader_ok_lem x t (r.ports x t).reader) (by_bool (is_share_port x)
      (λ e. rw e (shared_ok_lem x (leb-true slot_places x e) t)) (λ e. rw e (bounded_ok_lem x (leb-false slot_places x e) t)))))
      (λ t. rw (t, port_ok) (unread t (r.vacant x)))
    where
      unread : (port_of m.ports x).there ≡ false → There m.ports x ⊎ (reader_of m.ports x ≡ nobody) → is_nobody (reader_of m.ports x) ≡ true
      unread t (inl h) = clash (cc)
      unread t (inr h) = rw h

  queue_ok_lem : (x : ℕ) → queue_ok m x (queue_of m.queues x) ≡ true
  unfolding queue_ok
  queue_ok_lem x = by_bool (port_of m.ports x).there
      (λ t. by_list (queue_of m.queues x) (λ e. rw e) (λ b bs e. rw e t))
      (λ t. rw (v.ports.absent x t))

  -- check 12 passes at rest
  pub rests_check : job_ok m.job ≡ true → check m ≡ true
  unfolding check
  rests_check j =
      and_both _ _ (and_both _ _ (and_both _ _ (and_both _ _ (and_both _ _ j (counts_ok_lem out told m v r)) (lists_ok_lem out told m v r))
      (each_true (pipe_ok m) no_pipe m.pipes (λ p h. pipe_ok_lem p))) (each_true (port_ok m) no_port m.ports (λ x h. port_ok_lem x)))
      (each_true (queue_ok m) [] m.queues (λ x h. queue_ok_lem x))
