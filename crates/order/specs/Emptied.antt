-- The port of a slot is emptied into the outputs.
use Rattle.std.specs.Prelude.{◌≡◌, refl, ◌≢◌, true, List, [], ◌∷◌, ◌++◌, map, ℕ, ◌<◌, ◌≤◌, eqb}
use Rattle.std.proofs.Common.{sym, ap, ◌∙◌, inl, inr, append_assoc, append-nil, arith, eq-eqb, ne_eqb}
use Rattle.std.proofs.Math.Option.{some}
use Rattle.rules.specs.Table.{put}
use Rattle.rules.specs.Plan.{Row, root_of, kept_rows}
use Rattle.rules.specs.Port.{Batch, batch_rows}
use Rattle.rules.specs.Machine.{Machine, Output, place, share_port, slot_at_place, slot_places, places, set_queue, with_outputs, with_dirty}
use Rattle.rules.specs.Scan.{output_of}
use Rattle.laws.specs.Table.{by_bool, by_eq, clash, same, other, upd, upd_same, upd_other}
use Rattle.order.specs.Base.{place_bound, share_above}
use Rattle.order.specs.Inv.{Live, shut, port_of, queue_of, inlets_of, split_in, At, flat, still, held_rows, Ports, Shares, Flow, Splits, Delivered, Dirt, Full, stage_of, source_of, pieces_in}
use Rattle.order.specs.State.{Inv, Rests, all, no}
use Rattle.order.specs.Leaves.{either}
use Rattle.order.specs.Kept.{will_same, past_kept, packs_kept, waits_kept}
use Rattle.order.specs.Write.{brought_append, solid_append}

-- Rows held

pub held_append : (t : ℕ) (os ps : List Output) → held_rows t (os ++ ps) ≡ held_rows t os ++ held_rows t ps
held_append t [] ps = refl
held_append t (o ∷ os) ps = by_bool (eqb o.split t)
    (λ e. rw (e, held_append t os ps) (sym (append_assoc (batch_rows o.batch) (held_rows t os) (held_rows t ps)))) (λ e. rw (e, held_append t os ps))

held_mine : (s : ℕ) (q : List Batch) → held_rows s (map (output_of s) q) ≡ flat q
held_mine s [] = refl
held_mine s (b ∷ q) = rw (eq-eqb s s refl, held_mine s q)

held_others : (t s : ℕ) (q : List Batch) → s ≢ t → held_rows t (map (output_of s) q) ≡ []
held_others t s [] n = refl
held_others t s (b ∷ q) n = rw (ne_eqb s t n, held_others t s q n)

batches_of : (s : ℕ) (os : List Output) (q : List Batch) → map (λ (o : Output). o.batch) (os ++ map (output_of s) q) ≡ map (λ (o : Output). o.batch) os ++ q
batches_of s [] [] = refl
batches_of s [] (b ∷ q) = rw (batches_of s [] q)
batches_of s (o ∷ os) q = rw (batches_of s os q)

-- what is held of a split afterwards, with what its port has still to give
held_moved : (s : ℕ) (o rest f : List Row) (os : List Output) (q : List Batch) → f ≡ flat q ++ rest → o ++ held_rows s (os ++ map (output_of s) q) ++ rest ≡ o ++ held_rows s os ++ f
held_moved s o rest f os q e = rw (e, held_append s os (map (output_of s) q), held_mine s q)
    (ap (λ x. x ++ rest) (sym (append_assoc o (held_rows s os) (flat q))) ∙ append_assoc (o ++ held_rows s os) (flat q) rest)

held_kept : (t s : ℕ) (os : List Output) (q : List Batch) → s ≢ t → held_rows t (os ++ map (output_of s) q) ≡ held_rows t os
held_kept t s os q n = rw (held_append t os (map (output_of s) q), held_others t s q n) (append-nil (held_rows t os))

module _ (out : ℕ → List Row) (told : ℕ) (m : Machine) (v : Rests out told m) (k s : ℕ) (a : split_in m.active k ≡ some s) where
  abbrev pub root_port : ℕ
  root_port = place k (root_of m.job)

  abbrev pub emptied : List (List Batch)
  emptied = put [] m.queues root_port []

  abbrev pub all_held : List Output
  all_held = m.outputs ++ map (output_of s) (queue_of m.queues root_port)

  pub root_node : root_of m.job < 24
  root_node = omega (arith, v.job.nodes_high, v.job.nodes_low)

  pub slot_low : k < 3
  slot_low = omega (arith, (v.slots.active k s a).0, v.job.slots_high)

  pub root_low : root_port < slot_places
  root_low = place_bound k (root_of m.job) slot_low root_node

  -- the root's port is no inlet
  pub root_apart : (p i y : ℕ) → Live m.pipes p → At (inlets_of m.inlets p) i y → y ≢ root_port
  root_apart p i y l h e = let r = (v.ports.inlets p i y l h).1 in clash (cc (v.ports.roots k s a).1)

  abbrev left : ℕ → List Row
  left = upd v.F root_port (still (shut m.ports root_port) (v.W root_port))

  share_apart : (y : ℕ) → slot_places ≤ y → y ≢ root_port
  share_apart y h e = let g : root_port < slot_places = root_low in absurd (omega arith)

  alike : (p i y : ℕ) → Live m.pipes p → At (inlets_of m.inlets p) i y → (port_of m.ports y ≡ port_of m.ports y) × (queue_of emptied y ≡ queue_of m.queues y)
  alike p i y l h = (refl, other [] m.queues root_port y [] (root_apart p i y l h))

  left_same : (p i y : ℕ) → Live m.pipes p → At (inlets_of m.inlets p) i y → left y ≡ v.F y
  left_same p i y l h = upd_other v.F root_port y (still (shut m.ports root_port) (v.W root_port)) (root_apart p i y l h)

  emptied_ports : Ports m.job m.active all m.pipes m.inlets m.ports emptied
  emptied_ports = record {
    alive = v.ports.alive;
    opens = v.ports.opens;
    inlets = v.ports.inlets;
    readers = v.ports.readers;
    slots = v.ports.slots;
    roots = v.ports.roots;
    absent = λ y h. by_eq y root_port (λ e. rw (e, same)) (λ n. rw other (v.ports.absent y h));
    blank = v.ports.blank;
  }

  emptied_shares : Shares m.job no m.next m.unbuilt m.pipes m.sources m.ports emptied
  emptied_shares = record {
    ports = λ y h t. let w = v.shares.ports y h t in
        let e : queue_of emptied y ≡ queue_of m.queues y = other [] m.queues root_port y [] (share_apart y h) in
        record {
          leaf = w.leaf;
          split = w.split;
          is = w.is;
          below = w.below;
          is_leaf = w.is_leaf;
          pair = w.pair;
          shared = w.shared;
          built = w.built;
          holds = rw e w.holds;
          opens = λ c. let o = w.opens c in (o.0, o.1, rw e o.2);
          shuts = w.shuts;
          full = λ c r. e ∙ w.full c r;
          unslotted = w.unslotted;
        };
    waits = v.shares.waits;
    unbuilt = v.shares.unbuilt;
  }

  emptied_flow : Flow m.job m.active m.pipes m.sources m.stages m.inlets m.ports emptied places [] left v.W
  emptied_flow = record {
    port = λ y h. by_eq y root_port (λ e. rw (e, same, upd_same)) (λ n. rw (other, upd_other) (v.flow.port y h));
    share = λ l t h. let n : share_port l t ≢ root_port = share_apart (share_port l t) (share_above l t) in rw (other, upd_other) (v.flow.share l t h);
    pipes = λ p h l n. v.flow.pipes p h l n ∙ sym (will_same v.F left (pieces_in m.job p (split_in m.active (slot_at_place p)))
        (source_of m.sources p) (stage_of m.stages p) (inlets_of m.inlets p) (λ i y a. left_same p i y l a));
    mine = λ h. absurd (omega arith);
    ends = v.flow.ends;
    even = λ p i h y z l e a b. rw (left_same p i y l a, left_same p h z l b) (v.flow.even p i h y z l e a b);
  }

  emptied_splits : Splits m.job m.next m.active all_held left out
  emptied_splits = record {
    active = λ i t e. by_eq i k
        (λ q. let r : t ≡ s = cc in rw (q, r, upd_same)
        (held_moved s (out s) (still (shut m.ports root_port) (v.W root_port)) (v.F root_port) m.outputs (queue_of m.queues root_port) (v.flow.port root_port root_low) ∙ v.splits.active k s a))
        (λ n. let g : root_of m.job < 24 = root_node in
        let d : place i (root_of m.job) ≢ root_port = λ q. n (omega arith) in
        rw (upd_other, held_kept t s m.outputs (queue_of m.queues root_port) (λ q. n (v.slots.apart i k t e (rw q at a)))) (v.splits.active i t e));
    over = λ t h n. rw (held_kept t s m.outputs (queue_of m.queues root_port) (λ e. n k (rw (← e) a))) (v.splits.over t h n);
    later = λ t h. rw (held_kept t s m.outputs (queue_of m.queues root_port) (λ e. let g : s < m.next = (v.slots.active k s a).1 in absurd (omega arith))) (v.splits.later t h);
  }

  pub emptied_delivered : Delivered m.job m.pipes m.stages emptied m.reads all_held
  emptied_delivered = record {
    queues = λ y. by_eq y root_port (λ e. rw (e, same) tt) (λ n. rw other (v.delivered.queues y));
    outputs = rw (batches_of s m.outputs (queue_of m.queues root_port))
        (brought_append m.job m.reads (map (λ (o : Output). o.batch) m.outputs) (queue_of m.queues root_port) v.delivered.outputs (v.delivered.queues root_port));
    stages = v.delivered.stages;
    solid = λ y. by_eq y root_port (λ e. rw (e, same) tt) (λ n. rw other (v.delivered.solid y));
    solid_outs = rw (batches_of s m.outputs (queue_of m.queues root_port))
        (solid_append (map (λ (o : Output). o.batch) m.outputs) (queue_of m.queues root_port) v.delivered.solid_outs (v.delivered.solid root_port));
  }

  -- of a port that is closed nothing else comes
  pub ended_held : shut m.ports root_port ≡ true → out s ++ held_rows s all_held ≡ kept_rows m.job s
  ended_held c =
      let e : out s ++ held_rows s all_held ++ left root_port ≡ kept_rows m.job s = emptied_splits.active k s a in
      let f : left root_port ≡ [] = rw (upd_same, c) in
      sym (append-nil (out s ++ held_rows s all_held)) ∙ (rw f at e)

  -- the other splits hold what they held
  pub held_kept_all : (t : ℕ) → t ≢ s → held_rows t all_held ≡ held_rows t m.outputs
  held_kept_all t n = held_kept t s m.outputs (queue_of m.queues root_port) (λ e. n (sym e))

  emptied_full : (p : ℕ) → Live m.pipes p → p < slot_places → Full no m.queues p → Full (λ y. y ≡ root_port) emptied p
  emptied_full p l h f = by_eq p root_port (λ e. inr e) (λ n. either f (λ g. inl (rw other g)) (λ g. absurd g))

  pub emptied_ok : (D : List ℕ) → Dirt m.job m.active m.ports emptied D
      → Inv places [] all all no (λ y. y ≡ root_port) no out told (set_queue root_port [] (with_outputs all_held (with_dirty D m)))
  emptied_ok D dirt = record {
    F = left;
    W = v.W;
    job = v.job;
    slots = v.slots;
    pipes = v.pipes;
    ports = emptied_ports;
    shares = emptied_shares;
    flow = emptied_flow;
    past = past_kept m.pipes m.inlets m.ports m.ports m.queues emptied alike m.sources m.stages v.past;
    splits = emptied_splits;
    queued = v.queued;
    waits = waits_kept m.pipes m.inlets m.ports m.ports m.queues emptied alike all no (λ y. y ≡ root_port) m.sources emptied_full v.waits;
    dirt = dirt;
    quiet = v.quiet;
    packs = packs_kept m.pipes m.inlets m.ports m.ports m.queues emptied alike m.sources m.changed m.waits m.seen v.packs;
    reads = v.reads;
    once = v.once;
    delivered = emptied_delivered;
    numbers = v.numbers;
    tells = v.tells;
    sound = v.sound;
  }
