-- A split leaves its slot, and a split is over: its pipelines and ports go, and shared sources that nobody reads.
use Rattle.std.specs.Prelude.{◌≡◌, refl, ◌≢◌, Bool, true, ◌&&◌, List, [], ◌∷◌, ◌++◌, map, ℕ, zero, suc, ◌<◌, ◌≤◌, eqb, ltb}
use Rattle.std.proofs.Common.{sym, ap, ◌∙◌, inr, arith}
use Rattle.std.proofs.Math.Bool.{false}
use Rattle.std.proofs.Math.Option.{Option, none, some}
use borrow.Author.Tests.{ne_eqb, ltb-true, ltb-false, le-leb}
use Rattle.rules.specs.Table.{put, filter, has, up_from}
use Rattle.rules.specs.Job.{Kind, segment as aSegment, concat as aConcat, pack as aPack, Job}
use Rattle.rules.specs.Plan.{Row, node_of, root_of, kept_kids, kept_rows}
use Rattle.rules.specs.Port.{Batch}
use Rattle.rules.specs.Operators.{Source, segment, concat, pack}
use Rattle.rules.specs.Machine.{Machine, Pipeline, Stage, Port, Output, pipe, no_port, place, share_port, node_at_place, slot_at_place, slot_places, outlets, set_queue, with_ports, with_queues, with_outputs, with_dirty, with_finished}
use Rattle.rules.specs.Pipelines.{by_number, retire_each}
use Rattle.rules.specs.Scan.{is_unread, split_ports, end_split, places_of, empty_slot}
use Rattle.laws.specs.Table.{by_bool, by_eq, clash, same, other, and_left, and_right, and_both}
use Rattle.laws.specs.JobOk.{JobOk}
use Rattle.laws.specs.Draft.{empty_nil}
use Rattle.order.specs.Base.{place_of, place_slot, place_bound, share_above, share_split}
use Rattle.order.specs.Inv.{Live, There, shut, port_of, reader_of, pipe_of, queue_of, source_of, stage_of, inlets_of, split_in, At, Differ, Slots, Splits, Dirt, Form, Brought, Solid, held_rows}
use Rattle.order.specs.State.{Rests}
use Rattle.order.specs.Among.{Among}
use Rattle.order.specs.Outlets.{among_outlets}
use Rattle.order.specs.Leaves.{filter_has, map_has, or_inr}
use Rattle.order.specs.Lists.{at_has, has_at, has_map, has_up, up_has}
use Rattle.order.specs.Clear.{clear, clear_out, clear_in}
use Rattle.order.specs.Slot.{join_child, form_child, by_reader, none_at}
use Rattle.order.specs.Remove.{Removed, removed_ok}
use Rattle.order.specs.Retires.{Same, Blank, Gone, MayGo, free_is, number_has, number_differ, retires}

-- Lists of different numbers

pub differ_up : (f : ℕ → ℕ) → ((a b : ℕ) → f a ≡ f b → a ≡ b) → (i n : ℕ) → Differ (map f (up_from i n))
unfolding up_from
differ_up f h i zero = tt
differ_up f h i (suc n) = (
  by_bool (has (f i) (map f (up_from (suc i) n)))
      (λ e. let r = map_has f (up_from (suc i) n) (f i) e in let b = up_has (suc i) n r.0 r.1 in let q = h i r.0 r.2 in absurd
      (omega (arith, b.0, q)))
      (λ e. e),
  differ_up f h (suc i) n,
)

pub differ_filter : (f : ℕ → Bool) (xs : List ℕ) → Differ xs → Differ (filter f xs)
unfolding filter
differ_filter f [] u = tt
differ_filter f (x ∷ xs) u = by_bool (f x)
    (λ e. rw (e, filter) (filter_has f xs x ∙ rw u.0, differ_filter f xs u.1))
    (λ e. rw (e, filter) (differ_filter f xs u.1))

map_none : (xs : List ℕ) → map (λ x. x) xs ≡ xs
map_none [] = refl
map_none (x ∷ xs) = rw (map_none xs)

pub differ_numbers : (i n : ℕ) → Differ (up_from i n)
differ_numbers i n = rw (sym (map_none (up_from i n))) (differ_up (λ x. x) (λ a b e. e) i n)

none_in : (y : ℕ) (xs : List ℕ) → xs ≡ [] → has y xs ≡ false
unfolding has
none_in y xs e = rw e

none_among : (y : ℕ) (xs : List ℕ) → xs ≡ [] → Among y xs → ⊥
none_among y [] e a = a
none_among y (x ∷ xs) e a = clash (cc)

-- the places of a slot
pub slot_place : (k y : ℕ) → y < slot_places → slot_at_place y ≡ k → has y (places_of k) ≡ true
slot_place k y h e = rw (place_of y, e) (has_map (place k) (up_from 0 24) (node_at_place y) (has_up 0 24 (node_at_place y) (omega arith) (omega arith)))

pub place_slot_of : (k y : ℕ) → k < 3 → has y (places_of k) ≡ true → (y < slot_places) × (slot_at_place y ≡ k)
place_slot_of k y low h =
    let r = map_has (place k) (up_from 0 24) y h in
    let b = up_has 0 24 r.0 r.1 in
    let n : r.0 < 24 = omega (arith, b.1) in
    (rw r.2 (place_bound k r.0 low n), rw r.2 (place_slot k r.0 n))

-- the shared ports of a split
pub share_of : (s y : ℕ) → has y (split_ports s) ≡ true → (l : ℕ) × (y ≡ share_port l s)
share_of s y h = let r = map_has (λ l. share_port l s) (up_from 0 24) y h in (r.0, r.2)

-- a child's port is no shared port
joined : (j : Job) (p s i y : ℕ) → JobOk j → At (map (place (slot_at_place p)) (kept_kids j (node_at_place p) s)) i y → slot_places ≤ y → p < slot_places
    → (l : ℕ) × (y ≡ share_port l s)
joined j p s i y ok at h q = let c = join_child j ok p s i y at in absurd (omega (arith, c.0))

-- what a pipeline of a slot reads: ports of its slot, or of its split
form_share : (j : Job) → JobOk j → (p s i y : ℕ) (k : Kind) (src : Source) (st : Stage) (xs : List ℕ) → Form j p s k src st xs → At xs i y
    → slot_places ≤ y → p < slot_places → (l : ℕ) × (y ≡ share_port l s)
form_share j ok p s i y aSegment (segment a b e) st xs o at h q = none_at i y xs o.0 at
form_share j ok p s i y aSegment (concat c) st xs o at h q = one i y (rw o.is at at)
  where
    one : (i y : ℕ) → At (share_port o.leaf s ∷ []) i y → (l : ℕ) × (y ≡ share_port l s)
    one zero y a = (o.leaf, sym a)
    one (suc i) y a = absurd a
form_share j ok p s i y aSegment pack st xs o at h q = absurd o
form_share j ok p s i y aConcat (segment a b e) st xs o at h q = absurd o
form_share j ok p s i y aConcat (concat c) st xs o at h q = joined j p s i y ok (rw o.0 at at) h q
form_share j ok p s i y aConcat pack st xs o at h q = absurd o
form_share j ok p s i y aPack (segment a b e) st xs o at h q = absurd o
form_share j ok p s i y aPack (concat c) st xs o at h q = absurd o
form_share j ok p s i y aPack pack st xs o at h q = joined j p s i y ok (rw o.0 at at) h q

module _ (out : ℕ → List Row) (told : ℕ) (m : Machine) (v : Rests out told m) where
  -- an inlet in a slot is read in the same slot
  inlet_slot : (p i y : ℕ) → Live m.pipes p → At (inlets_of m.inlets p) i y → y < slot_places → slot_at_place y ≡ slot_at_place p
  inlet_slot p i y l a h = by_bool (ltb p slot_places)
      (λ b. let g : p < slot_places = ltb-true p slot_places b in
      let s = v.pipes.slots p l g in
      (form_child m.job v.job p s.split i y (node_of m.job (node_at_place p)).kind (source_of m.sources p) (stage_of m.stages p)
      (inlets_of m.inlets p) s.form a h).0)
      (λ b. none_at i y (inlets_of m.inlets p) (v.pipes.shares p l (ltb-false p slot_places b)).none_in a)

  -- a shared source reads nothing
  source_reads : {C : Type 0} (p i y : ℕ) → Live m.pipes p → slot_places ≤ p → At (inlets_of m.inlets p) i y → C
  source_reads p i y l h a = none_at i y (inlets_of m.inlets p) (v.pipes.shares p l h).none_in a

  -- a port that is not there is not marked
  unmarked : (y : ℕ) → (port_of m.ports y).there ≡ false → (port_of m.ports y).changed ≡ false
  unmarked y t = by_bool (port_of m.ports y).changed (λ c. clash (cc (v.quiet.present y c))) (λ c. c)

  -- The slot

  module _ (k s : ℕ) (ks : List ℕ) (a : split_in m.active k ≡ some s) (d : m.dirty ≡ k ∷ ks) (outs : List Output) where
    abbrev x : ℕ
    x = place k (root_of m.job)

    -- the port's rows were taken
    abbrev pub served : Machine
    served = set_queue x [] (with_outputs outs (with_dirty ks m))

    abbrev ps : List ℕ
    ps = by_number m.pipes (places_of k)

    low : k < 3
    low = omega (arith, (v.slots.active k s a).0, v.job.slots_high)

    root_low : root_of m.job < 24
    root_low = omega (arith, v.job.nodes_high, v.job.nodes_low)

    goes : (p : ℕ) → has p ps ≡ true → (p < slot_places) × (slot_at_place p ≡ k) × Live m.pipes p
    goes p e =
        let f : has p (places_of k) && (pipe_of m.pipes p).live ≡ true = sym (number_has m.pipes p (places_of k)) ∙ e in
        let g = place_slot_of k p low (and_left (has p (places_of k)) (pipe_of m.pipes p).live f) in
        (g.0, g.1, and_right (has p (places_of k)) (pipe_of m.pipes p).live f)

    -- a live one of the slot does
    go : (p : ℕ) → p < slot_places → slot_at_place p ≡ k → Live m.pipes p → has p ps ≡ true
    go p h e l = number_has m.pipes p (places_of k) ∙ and_both (has p (places_of k)) (pipe_of m.pipes p).live (slot_place k p h e) l

    may : MayGo ps served
    may = record {
      differ = number_differ m.pipes (places_of k) (differ_up (place k) (λ b c e. omega arith) 0 24);
      live = λ p e. (goes p e).2;
      low = λ p e. rw v.numbers.size (v.pipes.bound p (goes p e).2);
      few = omega (arith, v.numbers.few, v.numbers.balance);
    }

    gone : Gone ps served (retire_each ps served)
    gone = retires ps served may

    abbrev O' : List Port
    O' = clear no_port (places_of k) gone.ports'

    abbrev Q' : List (List Batch)
    Q' = clear [] (places_of k) gone.queues'

    abbrev A' : List (Option ℕ)
    A' = put none m.active k none

    -- a port of the slot is gone
    in_blank : (y : ℕ) → has y (places_of k) ≡ true → Blank O' Q' y
    in_blank y e = (clear_in no_port (places_of k) gone.ports' y e, clear_in [] (places_of k) gone.queues' y e)

    root_in : has x (places_of k) ≡ true
    root_in = slot_place k x (place_bound k (root_of m.job) low root_low) (place_slot k (root_of m.job) root_low)

    -- another that none of those that go reads is as it was
    off_same : (y : ℕ) → has y (places_of k) ≡ false → ((p : ℕ) → has p ps ≡ true → has y (inlets_of m.inlets p) ≡ false) → Same m O' Q' y
    off_same y e h =
        let g : Same served gone.ports' gone.queues' y = gone.off y h in
        let n : y ≢ x = λ i. clash (cc (root_in, rw i at e)) in
        (clear_out no_port (places_of k) gone.ports' y e ∙ g.0, clear_out [] (places_of k) gone.queues' y e ∙ g.1 ∙ other [] m.queues x y [] n)

    -- a shared one that one of them reads is gone
    share_blank : (y p i : ℕ) → slot_places ≤ y → has p ps ≡ true → At (inlets_of m.inlets p) i y → Blank O' Q' y
    share_blank y p i h e b =
        let g : Blank gone.ports' gone.queues' y = gone.share y p e (at_has (inlets_of m.inlets p) i y b) (le-leb slot_places y h) in
        by_bool (has y (places_of k)) (λ f. in_blank y f) (λ f. (
          clear_out no_port (places_of k) gone.ports' y f
              ∙ g.0,
          clear_out [] (places_of k) gone.queues' y f ∙ g.1,
        ))

    -- what one of them reads is gone
    read_blank : (y p i : ℕ) → has p ps ≡ true → At (inlets_of m.inlets p) i y → Blank O' Q' y
    read_blank y p i e b = let g = goes p e in by_bool (ltb y slot_places)
        (λ h. let f : y < slot_places = ltb-true y slot_places h in in_blank y (slot_place k y f (inlet_slot p i y g.2 b f ∙ g.1)))
        (λ h. share_blank y p i (ltb-false y slot_places h) e b)

    -- so a port that is there is as it was
    there_off : (y : ℕ) → There O' y → has y (places_of k) ≡ false
    there_off y t = by_bool (has y (places_of k)) (λ e. clash (cc (in_blank y e).0)) (λ e. e)

    there_unread : (y : ℕ) → There O' y → (p : ℕ) → has p ps ≡ true → has y (inlets_of m.inlets p) ≡ false
    there_unread y t p e = by_bool (has y (inlets_of m.inlets p))
        (λ h. let b = has_at (inlets_of m.inlets p) y h in clash (cc (read_blank y p b.0 e b.1).0)) (λ h. h)

    -- and one stays that is not of the slot, nor read by those that go
    unread : (y : ℕ) → ((p i : ℕ) → has p ps ≡ true → reader_of m.ports y ≢ pipe p i) → (p : ℕ) → has p ps ≡ true → has y (inlets_of m.inlets p) ≡ false
    unread y h p e = by_bool (has y (inlets_of m.inlets p))
        (λ f. let b = has_at (inlets_of m.inlets p) y f in absurd (h p b.0 e (v.ports.inlets p b.0 y (goes p e).2 b.1).1)) (λ f. f)

    stays : (y : ℕ) → There m.ports y → has y (places_of k) ≡ false → ((p i : ℕ) → has p ps ≡ true → reader_of m.ports y ≢ pipe p i) → There O' y
    stays y t e h = ap (λ (z : Port). z.there) (off_same y e (unread y h)).0 ∙ t

    -- of one that is not there nothing is left
    abbrev Void : ℕ → Type 0
    Void y = (queue_of Q' y ≡ []) × (shut O' y ≡ false) × ((port_of O' y).changed ≡ false)

    blank_void : (y : ℕ) → Blank O' Q' y → Void y
    blank_void y b = (b.1, ap (λ (z : Port). z.closed) b.0, ap (λ (z : Port). z.changed) b.0)

    there_void : (y : ℕ) → (port_of O' y).there ≡ false → has y (places_of k) ≡ false → There m.ports y → Void y
    there_void y t e h = by_reader (reader_of m.ports y)
        (λ r. clash (cc (t, stays y h e (λ p i f g. clash (cc (r, g))))))
        (λ r. clash (cc (t, stays y h e (λ p i f g. clash (cc (r, g))))))
        (λ p i r. by_bool (has p ps)
        (λ f. blank_void y (read_blank y p i f (v.ports.readers y p i h r).1))
        (λ f. clash (cc (t, stays y h e (λ q c g z. clash (let i : q ≡ p = cc in cc (f, rw i at g)))))))

    was_void : (y : ℕ) → has y (places_of k) ≡ false → (port_of m.ports y).there ≡ false → Void y
    was_void y e h =
        let g = off_same y e (λ p f. by_bool (has y (inlets_of m.inlets p))
        (λ z. let b = has_at (inlets_of m.inlets p) y z in clash (cc (h, (v.ports.inlets p b.0 y (goes p f).2 b.1).0))) (λ z. z)) in
        (g.1 ∙ v.ports.absent y h, ap (λ (z : Port). z.closed) g.0 ∙ v.ports.blank y h, ap (λ (z : Port). z.changed) g.0 ∙ unmarked y h)

    void : (y : ℕ) → (port_of O' y).there ≡ false → Void y
    void y t = by_bool (has y (places_of k)) (λ e. blank_void y (in_blank y e)) (λ e. by_bool (port_of m.ports y).there (there_void y t e) (was_void y e))

    -- the slot's split
    active_off : (i t : ℕ) → split_in A' i ≡ some t → i ≢ k
    active_off i t e n = clash (cc (same none m.active k none))

    active_was : (i t : ℕ) → split_in A' i ≡ some t → split_in m.active i ≡ some t
    active_was i t e = rw (other none m.active k i none (active_off i t e)) at e

    -- what lives afterwards is elsewhere
    live_stays : (p : ℕ) → Live gone.pipes' p → has p ps ≡ false
    live_stays p l = by_bool (has p ps) (λ e. clash (cc (gone.less.dead p e))) (λ e. e)

    live_was : (p : ℕ) → Live gone.pipes' p → Live m.pipes p
    live_was p l = sym (ap (λ (z : Pipeline). z.live) (gone.less.kept p (live_stays p l))) ∙ l

    live_off : (p : ℕ) → Live gone.pipes' p → p < slot_places → slot_at_place p ≢ k
    live_off p l h e = clash (cc (live_stays p l, go p h e (live_was p l)))

    out_places : (y : ℕ) → slot_at_place y ≢ k → has y (places_of k) ≡ false
    out_places y n = by_bool (has y (places_of k)) (λ e. absurd (n (place_slot_of k y low e).1)) (λ e. e)

    high_places : (y : ℕ) → slot_places ≤ y → has y (places_of k) ≡ false
    high_places y h = by_bool (has y (places_of k)) (λ e. let b : y < slot_places = (place_slot_of k y low e).0 in absurd (omega arith)) (λ e. e)

    -- an inlet of what stays
    inlet_off : (p i y : ℕ) → Live gone.pipes' p → At (inlets_of m.inlets p) i y → has y (places_of k) ≡ false
    inlet_off p i y l b = by_bool (has y (places_of k))
        (λ e. let g = place_slot_of k y low e in
        let n : slot_at_place y ≡ slot_at_place p = inlet_slot p i y (live_was p l) b g.0 in
        by_bool (ltb p slot_places)
        (λ h. absurd (live_off p l (ltb-true p slot_places h) (sym n ∙ g.1)))
        (λ h. source_reads p i y (live_was p l) (ltb-false p slot_places h) b))
        (λ e. e)

    removed : Removed ps m A' gone.pipes' O' Q'
    removed = record {
      same = λ y t. off_same y (there_off y t) (there_unread y t);
      void = void;
      inlets = λ p i y l b. let r = v.ports.inlets p i y (live_was p l) b in
          stays y r.0 (inlet_off p i y l b) (λ q c e f. let z : q ≡ p = cc r.1 in clash (cc (live_stays p l, rw z at e)));
      outlets = λ p l h. let b = v.ports.alive p (live_was p l) h tt in
          stays p b.0 (out_places p (live_off p l h)) (λ q c e f. let g = goes q e in
          live_off p l h (inlet_slot q c p g.2 (v.ports.readers p q c b.0 f).1 h ∙ g.1));
      roots = λ i t e. let r = v.ports.roots i t (active_was i t e) in
          stays (place i (root_of m.job)) r.0 (out_places (place i (root_of m.job))
          (λ n. active_off i t e (sym (place_slot i (root_of m.job) root_low) ∙ n))) (λ q c f g. clash (cc r.1));
      later = λ l t h b e r. stays (share_port l t) e (high_places (share_port l t) (share_above l t)) (λ q c f g. clash (cc));
      readers = λ y p i t r. by_bool (has p ps) (λ e. let b = v.ports.readers y p i
          (sym (ap (λ (z : Port). z.there) (off_same y (there_off y t) (there_unread y t)).0) ∙ t) r in
          clash (cc (read_blank y p i e b.1).0)) (λ e. e);
      writers = λ y h t. by_bool (has y ps) (λ e. clash (cc (there_off y t, slot_place k y h (goes y e).1))) (λ e. e);
      sources = λ l t p h b c z. by_bool (has p ps) (λ e. absurd (omega (arith, (goes p e).0, z.1))) (λ e. e);
      actives = active_was;
      slots = λ p l h. other none m.active k (slot_at_place p) none (live_off p l h);
      port_slots = λ y h t. other none m.active k (slot_at_place y) none (λ e. clash (cc (there_off y t, slot_place k y h e)));
    }

    left_slots : Slots m.job m.next A' m.finished
    left_slots = record {
      bound = v.slots.bound;
      active = λ i t e. v.slots.active i t (active_was i t e);
      apart = λ i l t e f. v.slots.apart i l t (active_was i t e) (active_was l t f);
      over = λ t e. let o = v.slots.over t e in (o.0, λ i f. o.1 i (active_was i t f));
    }

    left_dirt : Dirt m.job A' m.ports m.queues ks
    unfolding has
    left_dirt = record {
      clean = λ i t e f. v.dirt.clean i t (active_was i t e) (rw (d, ne_eqb i k (active_off i t e)) f);
      active = λ i f. let u : Differ (k ∷ ks) = rw d at v.dirt.differ in
          let n : i ≢ k = λ q. clash (cc u.0) in
          let g = v.dirt.active i (rw d (or_inr (eqb i k) (has i ks) f)) in
          (g.0, rw other g.1);
      differ = (rw d at v.dirt.differ).1;
    }

    left_splits : out s ++ held_rows s outs ≡ kept_rows m.job s → ((t : ℕ) → t ≢ s → held_rows t outs ≡ held_rows t m.outputs)
        → Splits m.job m.next A' outs v.F out
    left_splits z h = record {
      active = λ i t e. rw (h t (λ q. active_off i t e (v.slots.apart i k s (rw q at (active_was i t e)) a))) (v.splits.active i t (active_was i t e));
      over = λ t e n. by_eq t s (λ q. rw q z) (λ q. rw (h t q) (v.splits.over t e (λ i g. n i (other none m.active k i none (λ r. q (cc)) ∙ g))));
      later = λ t e. rw (h t (λ q. let b : s < m.next = (v.slots.active k s a).1 in absurd (omega arith))) (v.splits.later t e);
    }

    -- the slot is free: what the split has put out and holds is all that it keeps
    pub clear_ok : out s ++ held_rows s outs ≡ kept_rows m.job s → ((t : ℕ) → t ≢ s → held_rows t outs ≡ held_rows t m.outputs)
        → Brought m.job m.reads (map (λ (o : Output). o.batch) outs) → Solid (map (λ (o : Output). o.batch) outs)
        → Rests out told (empty_slot k served)
    unfolding empty_slot
    clear_ok z h b c = rw (gone.is, free_is) (removed_ok out told m v ps A' gone.pipes' O' Q' gone.ready' gone.reads' gone.freed'
        gone.less removed m.finished ks outs left_slots left_dirt (left_splits z h) b c)

  -- The end of a split

  module _ (s : ℕ) (old : s < m.next) (idle : (k : ℕ) → split_in m.active k ≢ some s) where
    -- its shared ports are freed
    abbrev freed : Machine
    freed = with_queues (clear [] (split_ports s) m.queues)
        (with_ports (clear no_port (split_ports s) m.ports) (with_finished (put false m.finished s true) m))

    abbrev us : List ℕ
    us = by_number m.pipes (filter (is_unread freed) (up_from slot_places 24))

    few : s < 16
    few = omega (arith, v.slots.bound, v.job.splits_high)

    quits : (p : ℕ) → has p us ≡ true → (slot_places ≤ p) × (is_unread freed p ≡ true) × Live m.pipes p
    quits p e =
        let xs = up_from slot_places 24 in
        let f : has p (filter (is_unread freed) xs) && (pipe_of m.pipes p).live ≡ true = sym (number_has m.pipes p (filter (is_unread freed) xs)) ∙ e in
        let g : has p xs && is_unread freed p ≡ true = sym (filter_has (is_unread freed) xs p)
        ∙ and_left (has p (filter (is_unread freed) xs)) (pipe_of m.pipes p).live f in (
          (up_has slot_places 24 p (and_left (has p xs) (is_unread freed p) g)).0,
          and_right (has p xs) (is_unread freed p) g,
          and_right
              (has p (filter (is_unread freed) xs)) (pipe_of m.pipes p).live f,
        )

    may_quit : MayGo us freed
    may_quit = record {
      differ = number_differ m.pipes (filter (is_unread freed) (up_from slot_places 24))
          (differ_filter (is_unread freed) (up_from slot_places 24) (differ_numbers slot_places 24));
      live = λ p e. (quits p e).2;
      low = λ p e. rw v.numbers.size (v.pipes.bound p (quits p e).2);
      few = omega (arith, v.numbers.few, v.numbers.balance);
    }

    quit : Gone us freed (retire_each us freed)
    quit = retires us freed may_quit

    -- they read nothing, so the ports are those that are left
    left_same : (y : ℕ) → Same freed quit.ports' quit.queues' y
    left_same y = quit.off y (λ p e. none_in y (inlets_of m.inlets p) (v.pipes.shares p (quits p e).2 (quits p e).0).none_in)

    of_split : (y : ℕ) → has y (split_ports s) ≡ true → Blank quit.ports' quit.queues' y
    of_split y e = ((left_same y).0 ∙ clear_in no_port (split_ports s) m.ports y e, (left_same y).1 ∙ clear_in [] (split_ports s) m.queues y e)

    not_split : (y : ℕ) → has y (split_ports s) ≡ false → Same m quit.ports' quit.queues' y
    not_split y e = ((left_same y).0 ∙ clear_out no_port (split_ports s) m.ports y e, (left_same y).1 ∙ clear_out [] (split_ports s) m.queues y e)

    there_other : (y : ℕ) → There quit.ports' y → has y (split_ports s) ≡ false
    there_other y t = by_bool (has y (split_ports s)) (λ e. clash (cc (of_split y e).0)) (λ e. e)

    other_there : (y : ℕ) → There m.ports y → has y (split_ports s) ≡ false → There quit.ports' y
    other_there y t e = ap (λ (z : Port). z.there) (not_split y e).0 ∙ t

    low_other : (y : ℕ) → y < slot_places → has y (split_ports s) ≡ false
    low_other y h = by_bool (has y (split_ports s)) (λ e. let r = share_of s y e in let b : slot_places ≤ y = rw r.1 (share_above r.0 s) in absurd
        (omega arith)) (λ e. e)

    -- nothing of it is claimed
    inlet_other : (p i y : ℕ) → Live m.pipes p → At (inlets_of m.inlets p) i y → has y (split_ports s) ≡ false
    inlet_other p i y l a = by_bool (has y (split_ports s))
        (λ e. let r = share_of s y e in
        let h : slot_places ≤ y = rw r.1 (share_above r.0 s) in
        by_bool (ltb p slot_places)
        (λ b. let g : p < slot_places = ltb-true p slot_places b in
        let w = v.pipes.slots p l g in
        let f = form_share m.job v.job p w.split i y (node_of m.job (node_at_place p)).kind (source_of m.sources p)
        (stage_of m.stages p) (inlets_of m.inlets p) w.form a h g in
        let c = v.slots.active (slot_at_place p) w.split w.is in
        let q : s ≡ w.split = share_split r.0 s f.0 w.split few (omega (arith, c.1, v.slots.bound, v.job.splits_high)) (sym r.1 ∙ f.1) in
        absurd (idle (slot_at_place p) (rw q w.is)))
        (λ b. source_reads p i y l (ltb-false p slot_places b) a))
        (λ e. e)

    live_on : (p : ℕ) → Live quit.pipes' p → Live m.pipes p
    live_on p l = by_bool (has p us) (λ e. clash (cc (quit.less.dead p e))) (λ e. sym (ap (λ (z : Pipeline). z.live) (quit.less.kept p e)) ∙ l)

    finish_removed : Removed us m m.active quit.pipes' quit.ports' quit.queues'
    finish_removed = record {
      same = λ y t. not_split y (there_other y t);
      void = λ y t. by_bool (has y (split_ports s))
          (λ e. let b = of_split y e in (b.1, ap (λ (z : Port). z.closed) b.0, ap (λ (z : Port). z.changed) b.0))
          (λ e. let g = not_split y e in
          let h : (port_of m.ports y).there ≡ false = sym (ap (λ (z : Port). z.there) g.0) ∙ t in
          (g.1 ∙ v.ports.absent y h, ap (λ (z : Port). z.closed) g.0 ∙ v.ports.blank y h, ap (λ (z : Port). z.changed) g.0 ∙ unmarked y h));
      inlets = λ p i y l a. other_there y (v.ports.inlets p i y (live_on p l) a).0 (inlet_other p i y (live_on p l) a);
      outlets = λ p l h. other_there p (v.ports.alive p (live_on p l) h tt).0 (low_other p h);
      roots = λ k t e. other_there (place k (root_of m.job)) (v.ports.roots k t e).0
          (low_other (place k (root_of m.job)) (place_bound k (root_of m.job) (omega (arith, (v.slots.active k t e).0, v.job.slots_high))
          (omega (arith, v.job.nodes_high, v.job.nodes_low))));
      later = λ l t h b e r. other_there (share_port l t) e (by_bool (has (share_port l t) (split_ports s))
          (λ f. let c = share_of s (share_port l t) f in
          let q : t ≡ s = share_split l t c.0 s (omega (arith, v.job.splits_high)) few c.1 in absurd (omega arith)) (λ f. f));
      readers = λ y p i t r. by_bool (has p us)
          (λ e. let q = quits p e in source_reads p i y q.2 q.0
          (v.ports.readers y p i (sym (ap (λ (z : Port). z.there) (not_split y (there_other y t)).0) ∙ t) r).1) (λ e. e);
      writers = λ y h t. by_bool (has y us) (λ e. absurd (omega (arith, (quits y e).0))) (λ e. e);
      sources = λ l t p h b c z. by_bool (has p us)
          (λ e. let q = quits p e in
          let n : outlets freed p ≡ [] = empty_nil (outlets freed p) q.1 in
          let f : Among (share_port l t) (outlets freed p) = among_outlets freed p (share_port l t)
          (sym (ap (λ (x : Port). x.there) (left_same (share_port l t)).0) ∙ h) (inr (q.0, (l, t, c, refl, b, sym z.2))) in
          absurd (none_among (share_port l t) (outlets freed p) n f)) (λ e. e);
      actives = λ k t e. e;
      slots = λ p l h. refl;
      port_slots = λ y h t. refl;
    }

    -- a split that is not active is over
    pub finish_ok : Rests out told (end_split s m)
    unfolding end_split
    finish_ok = rw (free_is, quit.is) (removed_ok out told m v us m.active quit.pipes' quit.ports' quit.queues' quit.ready'
        quit.reads' quit.freed' quit.less finish_removed
        (put false m.finished s true) m.dirty m.outputs
        (record {
          bound = v.slots.bound;
          active = v.slots.active;
          apart = v.slots.apart;
          over = λ t e. by_eq t s (λ d. rw d (old, idle))
              (λ d. v.slots.over t (rw other at e));
        })
        v.dirt v.splits v.delivered.outputs v.delivered.solid_outs)
