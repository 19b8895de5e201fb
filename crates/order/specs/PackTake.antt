-- A pack that was tested takes the least front of every inlet: the invariant with the joined batch in hand.
use Rattle.std.specs.Prelude.{◌≡◌, refl, ◌≢◌, false, ℕ, zero, suc, ◌+◌, ◌<◌, ◌≤◌, length, eqb}
use Rattle.std.proofs.Common.{sym, ap, subst, ◌∙◌, arith}
use Rattle.std.proofs.Math.Logic.{inr}
use Rattle.std.proofs.Math.Bool.{true}
use mathlib.Core.List.{List, [], ◌∷◌, ◌++◌, map, flat_map}
use Rattle.std.proofs.lemmas.Bool.{eqb-false}
use Rattle.rules.specs.Table.{get, put, has, up_from}
use Rattle.rules.specs.Job.{Job}
use Rattle.rules.specs.Plan.{Cell, Row, root_of}
use Rattle.rules.specs.Port.{Batch, no_batch, batch_rows, later, taken, is_full, capacity}
use Rattle.rules.specs.Operators.{pack, least, side_by_side}
use Rattle.rules.specs.Machine.{Machine, Read, place, slot, pipe, inlets_at, queue_at, with_queues, set_queue}
use Rattle.rules.specs.Drive.{touch, observe, observe_all, take_each, front_of}
use Rattle.laws.specs.Table.{by_bool, clash, same, other}
use Rattle.order.specs.Inv.{Solid, inlets_of, source_of, queue_of, At, Differ, Splits, Delivered, AllCame, Brought}
use Rattle.order.specs.State.{Busy}
use Rattle.order.specs.Base.{at_get, at_below}
use Rattle.order.specs.Sets.{insert_all_more, insert_all_has}
use Rattle.order.specs.Observe.{Looked, looked}
use Rattle.order.specs.PackPlace.{PackPlace, pack_place, other_inlet, not_at}
use Rattle.order.specs.PackLook.{Look, look_ok}
use Rattle.order.specs.PackTest.{Tested, noted_of}
use Rattle.order.specs.PackFlow.{take_q, take_q_other, take_q_has, unique_at, first_of, Fronts, after, after_out, take_flow}
use Rattle.order.specs.Lists.{has_at, has_up, up_has}
use Rattle.order.specs.Outlets.{full_me}

-- The least front

-- no front is shorter than the least
pub least_below : (f : ℕ → Batch) (xs : List ℕ) (i x : ℕ) → At xs i x → least (map f xs) ≤ (f x).rows
unfolding least
least_below f [] i x a = absurd a
least_below f (y ∷ []) zero x a = rw a (omega arith)
least_below f (y ∷ []) (suc i) x a = absurd a
least_below f (y ∷ z ∷ xs) zero x a = rw a (omega arith)
least_below f (y ∷ z ∷ xs) (suc i) x a = omega (arith, least_below f (z ∷ xs) i x a)

-- the least of fronts with rows has rows
pub least_some : (f : ℕ → Batch) (xs : List ℕ) → xs ≢ [] → ((i x : ℕ) → At xs i x → 0 < (f x).rows) → 0 < least (map f xs)
unfolding least
least_some f [] n h = absurd (n refl)
least_some f (y ∷ []) n h = h 0 y refl
least_some f (y ∷ z ∷ xs) n h = omega (arith, h 0 y refl, least_some f (z ∷ xs) (λ e. clash (cc)) (λ i x a. h (suc i) x a))

-- Taking and looking, one by one, is taking all and then looking.

-- an inlet is looked at before or after the other queues change
observe_queues : (p i : ℕ) (Q : List (List Batch)) (m : Machine) → queue_of Q (get 0 (inlets_at m p) i) ≡ queue_at m (get 0 (inlets_at m p) i)
    → with_queues Q (observe p i m) ≡ observe p i (with_queues Q m)
observe_queues p i Q m e = rw e

-- the first inlet is looked at when all have been taken of
take_next : (p n i x : ℕ) (xs : List ℕ) (m : Machine) → get 0 (inlets_at m p) i ≡ x → has x xs ≡ false
    → with_queues (take_q n (x ∷ xs) m.queues) (observe p i (set_queue x (taken n (queue_at m x)) m)) ≡ observe p i (with_queues (take_q n (x ∷ xs) m.queues) m)
take_next p n i x xs m e u =
    observe_queues p i (take_q n (x ∷ xs) m.queues) (set_queue x (taken n (queue_at m x)) m) (rw e (take_q_other n xs (put [] m.queues x (taken n (queue_at m x))) x u))

-- all the inlets
take_looks : (p n i : ℕ) (xs : List ℕ) (m : Machine) → Differ xs → ((h x : ℕ) → At xs h x → get 0 (inlets_at m p) (i + h) ≡ x)
    → take_each p n i xs m ≡ observe_all p (up_from i (length xs)) (with_queues (take_q n xs m.queues) m)
unfolding take_each observe_all up_from
take_looks p n i [] m u h = refl
take_looks p n i (x ∷ xs) m u h =
    let z : i + 0 ≡ i = omega arith in
    let s : (k : ℕ) → i + suc k ≡ suc i + k = λ k. omega arith in
    take_looks p n (suc i) xs (observe p i (set_queue x (taken n (queue_at m x)) m)) u.1 (λ k y a. rw (s k) at (h (suc k) y a))
    ∙ ap (observe_all p (up_from (suc i) (length xs))) (take_next p n i x xs m (rw z at (h 0 x refl)) u.0)

-- What is held

-- cells further down name the same segments
came_later : (j : Job) (R : List Read) (n : ℕ) (cs : List Cell) → AllCame j R cs → AllCame j R (map (later n) cs)
came_later j R n [] h = tt
came_later j R n (c ∷ cs) h = (h.0, came_later j R n cs h.1)

-- what is left names segments that have come
taken_came : (j : Job) (R : List Read) (n : ℕ) (q : List Batch) → Brought j R q → Brought j R (taken n q)
unfolding taken
taken_came j R n [] h = tt
taken_came j R n (b ∷ bs) h = by_bool (eqb b.rows n) (λ e. rw (e, taken) h.1) (λ e. rw (e, taken) (came_later j R n b.cells h.0, h.1))

-- no batch that is left is empty
taken_solid : (n : ℕ) (q : List Batch) → n ≤ (get no_batch q 0).rows → Solid q → Solid (taken n q)
unfolding taken
taken_solid n [] l h = tt
taken_solid n (b ∷ bs) l h =
    by_bool (eqb b.rows n) (λ e. rw (e, taken) h.1) (λ e. rw (e, taken) (let d : b.rows ≢ n = eqb-false b.rows n e in (omega arith, h.1)))

-- two lists of cells
came_append : (j : Job) (R : List Read) (cs ds : List Cell) → AllCame j R cs → AllCame j R ds → AllCame j R (cs ++ ds)
came_append j R [] ds h k = k
came_append j R (c ∷ cs) ds h k = (h.0, came_append j R cs ds h.1 k)

-- the cells of a first batch
front_came : (j : Job) (R : List Read) (q : List Batch) → Brought j R q → AllCame j R (get no_batch q 0).cells
front_came j R [] h = tt
front_came j R (b ∷ bs) h = h.0

-- the columns joined have come
pub joined_came : (j : Job) (R : List Read) (Q : List (List Batch)) (xs : List ℕ) → ((x : ℕ) → Brought j R (queue_of Q x))
    → AllCame j R (flat_map (λ (b : Batch). b.cells) (map (first_of Q) xs))
unfolding flat_map
joined_came j R Q [] h = tt
joined_came j R Q (x ∷ xs) h = came_append j R (first_of Q x).cells _ (front_came j R (queue_of Q x) (h x)) (joined_came j R Q xs h)

-- The move

-- `me` holds a batch that it has taken, and there is room for it
pub record Took (me : ℕ) (out : ℕ → List Row) (told : ℕ) (b : Batch) (m : Machine) : Type 0 where
  pub busy : Busy me (batch_rows b) out told m
  pub source : source_of m.sources me ≡ pack
  pub came : AllCame m.job m.reads b.cells
  pub room : is_full capacity (queue_at m me) ≡ false

module _ (out : ℕ → List Row) (told me : ℕ) (m : Machine) (t : Tested me out told m) where
  abbrev xs : List ℕ
  xs = inlets_of m.inlets me

  -- where the pack stands
  place_of_me : PackPlace me m.stages (inlets_of m.inlets me) m.ports
  place_of_me = pack_place me t.busy.inv.job t.busy.inv.pipes t.busy.inv.ports t.busy.running.live t.source

  -- its inlets are different ports
  inlets_differ : Differ (inlets_of m.inlets me)
  inlets_differ = unique_at (inlets_of m.inlets me) (λ i h x a b.
      let e : pipe me i ≡ pipe me h = sym (place_of_me.reads i x a).1 ∙ (place_of_me.reads h x b).1 in
      let e' : i ≡ h = cc in e')

  -- what taking writes
  take_look : (n : ℕ) (m' : Machine) → Looked me (up_from 0 (length xs)) (with_queues (take_q n xs m.queues) (touch me (up_from 0 (length xs)) m)) m'
      → Look me m (take_q n xs m.queues) m'.touched m.changed m'.waits m'.seen
  unfolding taken
  take_look n m' r =
      let u : Differ xs = inlets_differ in
      let is : (i x : ℕ) → At xs i x → has i (up_from 0 (length xs)) ≡ true = λ i x a.
      has_up 0 (length xs) i (omega arith) (let b = at_below xs i x a in omega arith) in
      record {
        queue_other = λ x h. take_q_other n xs m.queues x h;
        queue_none = λ x e. by_bool (has x xs) (λ h. take_q_has n xs m.queues x u h ∙ rw e) (λ h. take_q_other n xs m.queues x h ∙ e);
        queue_read = λ i x a. inr (r.more i (rw same (insert_all_has (up_from 0 (length xs)) i (get [] m.touched me) (is i x a))));
        touched_other = λ p d. r.touched_other p d ∙ rw other;
        touched_more = λ i h. r.more i (rw same (insert_all_more (up_from 0 (length xs)) i (get [] m.touched me) h));
        changed_other = λ p d. refl;
        changed_known = λ i h. t.busy.inv.packs.known me i t.busy.running.live t.source h;
        waits_other = r.waits_other;
        seen_other = r.seen_other;
        notes = r.notes (length xs) (λ i h. omega (arith, (up_has 0 (length xs) i h).1)) (noted_of me t.busy.inv.packs t.busy.running.live t.source);
        right = λ i x a. rw (at_get 0 xs i x a) at (r.right i (is i x a));
      }

  -- the root's port is no inlet
  take_splits : (Q : List (List Batch)) (F W : ℕ → List Row) → Splits m.job m.next m.active m.outputs F out
      → Splits m.job m.next m.active m.outputs (after xs m.ports Q F W) out
  take_splits Q F W v = record {
    active = λ k s e. rw (after_out xs m.ports Q F W (place k (root_of m.job)) (not_at xs (place k (root_of m.job)) (λ i a.
        let c : slot ≡ pipe me i = sym (t.busy.inv.ports.roots k s e).1 ∙ (place_of_me.reads i (place k (root_of m.job)) a).1 in clash (cc)))) (v.active k s e);
    over = v.over;
    later = v.later;
  }

  -- what is held afterwards
  take_delivered : (n : ℕ) → Fronts m.queues n xs → Delivered m.job m.pipes m.stages (take_q n xs m.queues) m.reads m.outputs
  take_delivered n fr =
      let v : Delivered m.job m.pipes m.stages m.queues m.reads m.outputs = t.busy.inv.delivered in
      record {
        queues = λ x. by_bool (has x xs)
            (λ h. rw (take_q_has n xs m.queues x inlets_differ h) (taken_came m.job m.reads n (queue_at m x) (v.queues x)))
            (λ h. rw (take_q_other n xs m.queues x h) (v.queues x));
        outputs = v.outputs;
        stages = v.stages;
        solid = λ x. by_bool (has x xs)
            (λ h. let r : (i : ℕ) × At xs i x = has_at xs x h in
            rw (take_q_has n xs m.queues x inlets_differ h) (taken_solid n (queue_at m x) (fr r.0 x r.1).1 (v.solid x)))
            (λ h. rw (take_q_other n xs m.queues x h) (v.solid x));
        solid_outs = v.solid_outs;
      }

  -- n rows are taken of every inlet, and every inlet is seen as it is
  pub take_ok : (n : ℕ) → xs ≢ [] → Fronts m.queues n xs
      → Took me out told (side_by_side n (map (front_of m) xs)) (take_each me n 0 xs (touch me (up_from 0 (length xs)) m))
  take_ok n d fr =
      let v : _ = t.busy.inv in
      let m5 : Machine = with_queues (take_q n xs m.queues) (touch me (up_from 0 (length xs)) m) in
      let m6 : Machine = observe_all me (up_from 0 (length xs)) m5 in
      let r : Looked me (up_from 0 (length xs)) m5 m6 = looked me (up_from 0 (length xs)) m5 in
      let is : take_each me n 0 xs (touch me (up_from 0 (length xs)) m) ≡ m6 = take_looks me n 0 xs (touch me (up_from 0 (length xs)) m) inlets_differ (λ h x a. let z : 0 + h ≡ h = omega arith in rw z (at_get 0 xs h x a)) in
      subst (λ (z : Machine). Took me out told (side_by_side n (map (front_of m) xs)) z) (sym (is ∙ r.only)) (record {
        busy = look_ok out told me [] (batch_rows (side_by_side n (map (front_of m) xs))) m (take_q n xs m.queues) m6.touched m.changed m6.waits m6.seen
            (after xs m.ports (take_q n xs m.queues) v.F v.W) t.busy t.source (take_look n m6 r)
            (take_flow m.job m.active m.pipes m.sources m.stages m.inlets m.ports m.queues me n v.F v.W v.flow t.source d inlets_differ place_of_me.below fr
            (λ p i x l c a. other_inlet me p i x v.ports t.busy.running.live l c a))
            (take_splits (take_q n xs m.queues) v.F v.W v.splits) (take_delivered n fr);
        source = t.source;
        came = joined_came m.job m.reads m.queues xs v.delivered.queues;
        room = rw (take_q_other n xs m.queues me (not_at xs me (λ i a. place_of_me.notme i me a refl))) (sym (full_me me m place_of_me.low) ∙ t.room);
      })
