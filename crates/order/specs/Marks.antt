-- The invariant where only marks, changed inlets and dirty slots change.
use Rattle.std.specs.Prelude.{◌≡◌, refl, ◌≢◌, true, false, List, [], ◌∷◌, ℕ, ◌<◌, ◌≤◌, length, eqb}
use Rattle.std.proofs.Common.{sym, ap, ◌∙◌, inl, inr, arith, eq-eqb, ne_eqb}
use Rattle.std.proofs.Math.Option.{some}
use Rattle.rules.specs.Table.{get, put, has}
use Rattle.rules.specs.Plan.{Row, root_of}
use Rattle.rules.specs.InletSet.{InletSet, insert}
use Rattle.rules.specs.Port.{Batch}
use Rattle.rules.specs.Operators.{inlet, blocked, outlet}
use Rattle.rules.specs.Machine.{Machine, Port, slot, pipe, no_port, place, slot_at_place, slot_places, set_port, set_changed, with_ports, with_changed, with_dirty}
use Rattle.rules.specs.Wake.{mark_dirty}
use Rattle.laws.specs.Table.{by_bool, by_eq, clash, same, other, or_right}
use Rattle.order.specs.Inv.{inlets_of, Live, port_of, reader_of, state_of, split_in, Idle, Full, Waits, Dirt, Quiet, Packs}
use Rattle.order.specs.State.{Inv}
use Rattle.order.specs.Base.{place_slot}
use Rattle.order.specs.Sets.{insert_other, has_insert}
use Rattle.order.specs.Frame.{Port-alike, Ports-alike, ports_refl, ports_put, past_down, packs_down, ports_alike, shares_alike, flow_alike}

-- ports the same but for marks: only what speaks of marks has to be shown
pub remarked : (me : ℕ) (who «open» loud loud' freed freed' busy : ℕ → Type 0) (out : ℕ → List Row) (told : ℕ) (m : Machine) (O' : List Port) (C' : List InletSet) (D' : List ℕ)
    → Inv me [] who «open» loud freed busy out told m → Ports-alike m.ports O'
    → Waits who freed' m.pipes m.sources m.inlets O' m.queues → Dirt m.job m.active O' m.queues D' → Quiet who loud' m.pipes O' m.touched
    → Packs m.pipes m.sources m.inlets O' m.queues C' m.waits m.seen
    → Inv me [] who «open» loud' freed' busy out told (with_dirty D' (with_ports O' (with_changed C' m)))
remarked me who «open» loud loud' freed freed' busy out told m O' C' D' v K w d z k =
    let P = m.pipes in
    let O = m.ports in
    let j = m.job in
    record {
      F = v.F;
      W = v.W;
      job = v.job;
      slots = v.slots;
      pipes = v.pipes;
      ports = ports_alike j P P O O' (λ p. refl) K m.active «open» «open» m.inlets m.queues (λ p l h. h) v.ports;
      shares = shares_alike j P P O O' (λ p. refl) K busy busy m.next m.unbuilt m.sources m.queues (λ x l t p u i a b s f e. f) v.shares;
      flow = flow_alike j P P O O' (λ p. refl) K m.active m.sources m.stages m.inlets m.queues me me v.F v.W v.flow;
      past = past_down j P P (λ p l. l) O O' m.queues m.queues m.inlets (λ p i x l a. ((K x).closed, refl)) m.sources m.stages v.past;
      splits = v.splits;
      queued = v.queued;
      waits = w;
      dirt = d;
      quiet = z;
      packs = k;
      reads = v.reads;
      once = v.once;
      delivered = v.delivered;
      numbers = v.numbers;
      tells = v.tells;
      sound = v.sound;
    }

-- Sets

pub has_inserted : (i : ℕ) (s : InletSet) → has i (insert i s) ≡ true
unfolding has
has_inserted i s = by_bool (has i s) (λ c. rw (c, c)) (λ c. rw (c, eq-eqb i i refl))

-- what is in a set with one more
pub has_cons : (i h : ℕ) (s : List ℕ) → has i (h ∷ s) ≡ true → i ≢ h → has i s ≡ true
unfolding has
has_cons i h s e n = rw (ne_eqb i h n) at e

-- a port that another mark does not touch
idle_other : (O : List Port) (Q : List (List Batch)) (x z : ℕ) (y : Port) → z ≢ x → Idle O Q z → Idle (put no_port O x y) Q z
idle_other O Q x z y n (inl e) = inl (e.0, ap (λ (w : Port). w.closed) (other no_port O x z y n) ∙ e.1)
idle_other O Q x z y n (inr e) = inr (ap (λ (w : Port). w.changed) (other no_port O x z y n) ∙ e)

-- the mark of a port that was written over
mark_same : (O : List Port) (x : ℕ) (y : Port) → (port_of (put no_port O x y) x).changed ≡ y.changed
mark_same O x y = ap (λ (w : Port). w.changed) (same no_port O x y)

mark_other : (O : List Port) (x z : ℕ) (y : Port) → z ≢ x → (port_of (put no_port O x y) z).changed ≡ (port_of O z).changed
mark_other O x z y n = ap (λ (w : Port). w.changed) (other no_port O x z y n)

module _ (me : ℕ) (who «open» loud freed busy : ℕ → Type 0) (out : ℕ → List Row) (told : ℕ) (m : Machine) (v : Inv me [] who «open» loud freed busy out told m) where
  -- fewer ports may be marked
  pub louder : (loud' : ℕ → Type 0) → ((x : ℕ) → (port_of m.ports x).changed ≡ true → loud x → loud' x) → Inv me [] who «open» loud' freed busy out told m
  louder loud' f = remarked me who «open» loud loud' freed freed busy out told m m.ports m.changed m.dirty v (ports_refl m.ports) v.waits v.dirt
      (record { marks = λ x c. f x c (v.quiet.marks x c); touches = v.quiet.touches; present = v.quiet.present }) v.packs

  -- fewer writers have to be woken
  pub freer : (freed' : ℕ → Type 0) → ((q : ℕ) → Live m.pipes q → state_of m.pipes q ≡ outlet → q < slot_places → freed q → Full freed' m.queues q) → Inv me [] who «open» loud freed' busy out told m
  freer freed' f = remarked me who «open» loud loud freed freed' busy out told m m.ports m.changed m.dirty v (ports_refl m.ports)
      (record { on_io = v.waits.on_io; on_inlet = v.waits.on_inlet; on_outlet = λ q l s. let o = v.waits.on_outlet q l s in (o.0, full q l s o.0 o.1) }) v.dirt v.quiet v.packs
    where
      full : (q : ℕ) → Live m.pipes q → state_of m.pipes q ≡ outlet → q < slot_places → Full freed m.queues q → Full freed' m.queues q
      full q l s h (inl e) = inl e
      full q l s h (inr e) = f q l s h e

  -- one more inlet is changed
  pub changed_ok : (p i : ℕ) → i < length (inlets_of m.inlets p) → Inv me [] who «open» loud freed busy out told (set_changed p (insert i (get [] m.changed p)) m)
  changed_ok p i b =
      let C' = put [] m.changed p (insert i (get [] m.changed p)) in
      remarked me who «open» loud loud freed freed busy out told m m.ports C' m.dirty v (ports_refl m.ports) v.waits v.dirt v.quiet
      (packs_down m.job m.pipes m.pipes (λ p l. l) m.ports m.ports m.queues m.queues m.inlets (λ q k x l a. (refl, refl)) m.sources m.changed C' m.waits m.seen v.packs
      (λ q k x l a h. by_eq q p (λ e. rw (e, same) (has_insert k i (get [] m.changed p) (rw e at h))) (λ n. rw other h)) (λ q k x l a h. inr h)
      (λ q k l s h. by_eq q p (λ e. by_eq k i (λ z. rw (e, z) b) (λ n. rw e (v.packs.known p k (rw e at l) (rw e at s) (sym (insert_other i k (get [] m.changed p) n) ∙ rw (e, same) at h)))) (λ n. v.packs.known q k l s (rw other at h))))

  -- the slot of an active split is dirty
  pub dirty_ok : (k s : ℕ) → split_in m.active k ≡ some s → Inv me [] who «open» loud freed busy out told (mark_dirty k m)
  unfolding has
  dirty_ok k s a = by_bool (has k m.dirty)
      (λ e. rw e v)
      (λ e. rw e (remarked me who «open» loud loud freed freed busy out told m m.ports m.changed (k ∷ m.dirty) v (ports_refl m.ports) v.waits
      (record {
        clean = λ h t b c. v.dirt.clean h t b (or_right (eqb h k) (has h m.dirty) c);
        active = λ h c. by_eq h k (λ i. (s, rw i a)) (λ n. v.dirt.active h (has_cons h k m.dirty c n));
        differ = (e, v.dirt.differ);
      }) v.quiet v.packs))

  -- what has to be known before the mark of a port goes
  pub unmark_ok : (x : ℕ) (y : Port) (loud' : ℕ → Type 0) → Port-alike (port_of m.ports x) y → y.changed ≡ false → ((z : ℕ) → z ≢ x → loud z → loud' z)
      → ((p i : ℕ) → Live m.pipes p → reader_of m.ports x ≡ pipe p i → (state_of m.pipes p ≢ blocked (inlet i)) × (has i (get [] m.changed p) ≡ true))
      → (reader_of m.ports x ≡ slot → has (slot_at_place x) m.dirty ≡ true)
      → Inv me [] who «open» loud' freed busy out told (set_port x y m)
  unmark_ok x y loud' K c f t u =
      let O = m.ports in
      let O' = put no_port O x y in
      let K' : Ports-alike O O' = ports_put O x y K in
      let n1 : 1 ≤ length m.job.nodes = v.job.nodes_low in
      let n2 : length m.job.nodes ≤ 24 = v.job.nodes_high in
      remarked me who «open» loud loud' freed freed busy out told m O' m.changed m.dirty v K'
      (record {
        on_io = v.waits.on_io;
        on_inlet = λ p i l s. let w = v.waits.on_inlet p i l s in
            let n : w.0 ≢ x = λ e. (t p i l (rw e at (v.ports.inlets p i w.0 l w.1).1)).0 s in
            (w.0, w.1, idle_other O m.queues x w.0 y n w.2);
        on_outlet = v.waits.on_outlet;
      })
      (record {
        clean = λ k s a e.
            let r = place k (root_of m.job) in
            let n : r ≢ x = λ i. clash (cc (
              e,
              ap (λ (h : ℕ). has h m.dirty) (place_slot k (root_of m.job) (omega arith)),
              ap (λ (h : ℕ). has (slot_at_place h) m.dirty) i,
              u (rw i at (v.ports.roots k s a).1),
            )) in
            idle_other O m.queues x r y n (v.dirt.clean k s a e);
        active = v.dirt.active;
        differ = v.dirt.differ;
      })
      (record {
        marks = λ z h. by_eq z x (λ i. clash (cc (c, mark_same O x y))) (λ n. f z n (v.quiet.marks z (sym (mark_other O x z y n) ∙ h)));
        touches = v.quiet.touches;
        present = λ z h. by_eq z x (λ i. clash (cc (c, mark_same O x y))) (λ n. (K' z).there ∙ v.quiet.present z (sym (mark_other O x z y n) ∙ h));
      })
      (packs_down m.job m.pipes m.pipes (λ p l. l) O O' m.queues m.queues m.inlets (λ p i z l a. ((K' z).closed, refl)) m.sources m.changed m.changed m.waits m.seen v.packs
      (λ p i z l a h. h)
      (λ p i z l a h. by_eq z x (λ e. inl (t p i l (rw e at (v.ports.inlets p i z l a).1)).1) (λ n. inr (mark_other O x z y n ∙ h))) v.packs.known)
