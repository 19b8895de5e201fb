-- A dirty slot's turn.
use Rattle.std.specs.Prelude.{◌≡◌, refl, ◌≢◌, true, false, ◌&&◌, not, ℕ, ◌<◌, eqb}
use Rattle.std.proofs.Common.{ap, inl, arith}
use mathlib.Core.List.{List, [], ◌∷◌, ◌++◌}
use Rattle.std.proofs.Math.Option.{none, some}
use borrow.Author.Tests.{ne_eqb, eq-eqb, lt-leb}
use Rattle.rules.specs.Table.{put, has}
use Rattle.rules.specs.Plan.{Row, root_of, kept_rows}
use Rattle.rules.specs.Port.{Batch}
use Rattle.rules.specs.Machine.{Machine, place, slot_places, places, live, pipe_at, is_share_port, set_queue, with_outputs, with_dirty}
use Rattle.rules.specs.Wake.{wake_writer, at_outlet, any_full}
use Rattle.rules.specs.Pipelines.{by_number}
use Rattle.rules.specs.Scan.{places_of, empty_slot, leave, serve, advance}
use Rattle.laws.specs.Table.{by_bool, by_eq, clash, same, other}
use Rattle.order.specs.Base.{place_slot}
use Rattle.order.specs.Inv.{shut, split_in, Dirt, Idle, held_rows}
use Rattle.order.specs.State.{Rests, all, no}
use Rattle.order.specs.Leaves.{or_inl, or_inr}
use Rattle.order.specs.Wakes.{kept_refl}
use Rattle.order.specs.Writers.{writer_ok}
use Rattle.order.specs.Slot.{slot_still}
use Rattle.order.specs.Emptied.{emptied, all_held, slot_low, root_low, root_node, emptied_delivered, ended_held, held_kept_all, emptied_ok}
use Rattle.order.specs.Retires.{free_is, retires_next}
use Rattle.order.specs.Leave.{clear_ok, finish_ok}

-- a pipeline that is not live is not woken
wake_dead : (x : ℕ) (m : Machine) → x < slot_places → live m x ≡ false → wake_writer x m ≡ m
unfolding wake_writer
wake_dead x m h e = let t : not (is_share_port x) && live m x && at_outlet (pipe_at m x).state && not (any_full m x) ≡ false = rw (lt-leb slot_places x h, e) in rw (t, wake_writer)

-- what a slot's clearing leaves of splits
cleared_slot : (k : ℕ) (m : Machine) → ((empty_slot k m).next ≡ m.next) × ((empty_slot k m).active ≡ put none m.active k none)
unfolding empty_slot
cleared_slot k m = rw (free_is) (
  (retires_next (by_number m.pipes (places_of k)) m).0,
  ap (λ l. put none l k none)
      (retires_next (by_number m.pipes (places_of k)) m).1,
)

cleared_next : (k : ℕ) (m : Machine) {s : ℕ} → s < m.next → s < (empty_slot k m).next
cleared_next k m h = rw (cleared_slot k m).0 h

cleared_off : (k s : ℕ) (m : Machine) → ((i : ℕ) → split_in m.active i ≡ some s → i ≡ k) → (i : ℕ) → split_in (empty_slot k m).active i ≢ some s
cleared_off k s m h i e = let f : split_in (put none m.active k none) i ≡ some s = rw (cleared_slot k m).1 at e in
    by_eq i k (λ d. clash (cc (same none m.active k none, rw d at f))) (λ n. n (h i (rw other at f)))

module _ (out : ℕ → List Row) (told : ℕ) (m : Machine) (v : Rests out told m) (k s : ℕ) (ks : List ℕ) (a : split_in m.active k ≡ some s) (d : m.dirty ≡ k ∷ ks) where
  abbrev x : ℕ
  x = place k (root_of m.job)

  abbrev Q' : List (List Batch)
  Q' = emptied out told m v k s a

  -- the port's rows are held
  abbrev taken : List ℕ → Machine
  taken D = set_queue x [] (with_outputs (all_held out told m v k s a) (with_dirty D m))

  -- another slot's port is as it was
  idle_other : (i : ℕ) → i ≢ k → Idle m.ports m.queues (place i (root_of m.job)) → Idle m.ports Q' (place i (root_of m.job))
  idle_other i n e =
      let b : root_of m.job < 24 = root_node out told m v k s a in
      let f : place i (root_of m.job) ≢ x = λ q. n (omega arith) in
      rw other e

  -- the slot is not dirty any more where its port is open
  dirt_open : shut m.ports x ≡ false → Dirt m.job m.active m.ports Q' ks
  unfolding has
  dirt_open c = record {
    clean = λ i t g n. by_eq i k (λ e. rw e (inl (same [] m.queues x [], c)))
        (λ e. idle_other i e (v.dirt.clean i t g (rw (d, ne_eqb i k e) n)));
    active = λ i h. v.dirt.active i (rw d (or_inr (eqb i k) (has i ks) h));
    differ = (rw d at v.dirt.differ).1;
  }

  open_ok : shut m.ports x ≡ false → Rests out told (wake_writer x (taken ks))
  open_ok c = (writer_ok (taken ks) places all all no no out told (λ y. y ≡ x) no x (taken ks) (λ q n e. absurd (n e))
      (record { inv = emptied_ok out told m v k s a ks (dirt_open c); held = λ p. inl tt; kept = kept_refl (taken ks) })).inv

  module _ (c : shut m.ports x ≡ true) where
    unwoken : wake_writer x (taken ks) ≡ taken ks
    unwoken = wake_dead x (taken ks) (root_low out told m v k s a) (by_bool (live m x)
        (λ l. absurd (slot_still out told m v k (slot_low out told m v k s a) c x (root_low out told m v k s a)
        (place_slot k (root_of m.job) (root_node out told m v k s a)) l)) (λ l. l))

    -- all rows of the split are held
    all_held_lem : out s ++ held_rows s (all_held out told m v k s a) ≡ kept_rows m.job s
    all_held_lem = ended_held out told m v k s a c

    closed_ok : Rests out told (leave k s (taken ks))
    closed_ok =
        let w = clear_ok out told m v k s ks a d (all_held out told m v k s a) all_held_lem (held_kept_all out told m v k s a)
        (emptied_delivered out told m v k s a).outputs (emptied_delivered out told m v k s a).solid_outs in
        finish_ok out told (empty_slot k (taken ks)) w s (cleared_next k (taken ks) (v.slots.active k s a).1)
        (cleared_off k s (taken ks) (λ i e. v.slots.apart i k s e a))

  serve_ok : Rests out told (serve k s x (with_dirty ks m))
  unfolding serve
  serve_ok = by_bool (shut m.ports x) (λ c. rw (c, serve, unwoken c) (closed_ok c)) (λ c. rw (c, serve) (open_ok c))

-- a dirty slot's turn
pub advance_ok : (out : ℕ → List Row) (told : ℕ) (m : Machine) → Rests out told m → (k : ℕ) (ks : List ℕ) → m.dirty ≡ k ∷ ks → Rests out told (advance k (with_dirty ks m))
unfolding advance has
advance_ok out told m v k ks d =
    let a = v.dirt.active k (rw d (or_inl (eqb k k) (has k ks) (eq-eqb k k refl))) in
    rw (a.1, advance) (serve_ok out told m v k a.0 ks a.1 d)
