-- Pipelines and ports that go at once, as those of a split that leaves its slot: what stays has its partner still.
use Rattle.std.specs.Prelude.{◌≡◌, Bool, true, false, List, [], ◌∷◌, map, ℕ, ◌+◌, ◌-◌, ◌/◌, ◌<◌, ◌≤◌, length, ltb, if◌then◌else◌}
use Rattle.std.proofs.Common.{sym, ap, ◌∙◌, inl, inr}
use Rattle.std.proofs.Math.Option.{Option, some}
use native.Mathlib.Omega.{arith}
use borrow.Author.Tests.{lt-ltb, le-ltb}
use Rattle.rules.specs.Table.{has}
use Rattle.rules.specs.Job.{Job}
use Rattle.rules.specs.Plan.{Cell, Row, root_of, is_leaf}
use Rattle.rules.specs.Port.{Batch, batch_rows}
use Rattle.rules.specs.Machine.{Machine, Pipeline, Port, Read, Output, nobody, pipe, place, share_port, slot_at_place, slot_places, places, with_pipes, with_ports, with_queues, with_ready, with_reads, with_freed, with_active, with_finished, with_dirty, with_outputs}
use Rattle.laws.specs.Table.{by_bool, clash}
use Rattle.order.specs.Base.{share_above}
use Rattle.order.specs.Inv.{Live, There, shut, port_of, reader_of, pipe_of, state_of, source_of, stage_of, inlets_of, queue_of, split_in, At, count, lives, read_at, Slots, Pipes, Ports, SlotPort, Shares, Sources, Flow, Splits, Queued, Waits, Idle, Dirt, Quiet, Reads, Once, Came, AllCame, Brought, Solid, Numbers, whole, will, pieces_in, segment_of}
use Rattle.order.specs.State.{Rests, all, no}
use Rattle.order.specs.Frame.{past_down, packs_down, share_port_lem}
use Rattle.order.specs.Kept.{will_same}

-- the pipelines of a list go
pub record Lessened (ps : List ℕ) (P P' : List Pipeline) (rd rd' : List ℕ) (R R' : List Read) (fr fr' : List ℕ) : Type 0 where
  pub dead : (p : ℕ) → has p ps ≡ true → (pipe_of P' p).live ≡ false
  pub kept : (p : ℕ) → has p ps ≡ false → pipe_of P' p ≡ pipe_of P p
  pub size : length P' ≡ length P
  -- as many numbers are freed as pipelines go
  pub balance : length fr' + lives P' ≡ length fr + lives P
  -- the ready stack is without them
  pub gone : (p : ℕ) → has p ps ≡ true → count p rd' ≡ 0
  pub ready : (p : ℕ) → has p ps ≡ false → count p rd' ≡ count p rd
  -- the reads lose them as owners
  pub reads : length R' ≡ length R
  pub leaf : (r : ℕ) → (read_at R' r).leaf ≡ (read_at R r).leaf
  pub came : (r : ℕ) → (read_at R' r).delivered ≡ (read_at R r).delivered
  pub owner : (r p : ℕ) → (read_at R' r).owner ≡ some p → ((read_at R r).owner ≡ some p) × (has p ps ≡ false)
  pub owns : (r p : ℕ) → has p ps ≡ false → (read_at R r).owner ≡ some p → (read_at R' r).owner ≡ some p

-- with ports; `A'` are the slots afterwards
pub record Removed (ps : List ℕ) (m : Machine) (A' : List (Option ℕ)) (P' : List Pipeline) (O' : List Port) (Q' : List (List Batch)) : Type 0 where
  -- a port is as it was, or not there
  pub same : (y : ℕ) → There O' y → (port_of O' y ≡ port_of m.ports y) × (queue_of Q' y ≡ queue_of m.queues y)
  pub void : (y : ℕ) → (port_of O' y).there ≡ false → (queue_of Q' y ≡ []) × (shut O' y ≡ false) × ((port_of O' y).changed ≡ false)
  -- a pipeline that stays has its ports, a slot its root's, and a later split those that wait for it
  pub inlets : (p i y : ℕ) → Live P' p → At (inlets_of m.inlets p) i y → There O' y
  pub outlets : (p : ℕ) → Live P' p → p < slot_places → There O' p
  pub roots : (k s : ℕ) → split_in A' k ≡ some s → There O' (place k (root_of m.job))
  pub later : (l t : ℕ) → m.next ≤ t → t < length m.job.splits → There m.ports (share_port l t) → reader_of m.ports (share_port l t) ≡ nobody
      → There O' (share_port l t)
  -- a port that stays has its reader and its writer
  pub readers : (y p i : ℕ) → There O' y → reader_of m.ports y ≡ pipe p i → has p ps ≡ false
  pub writers : (y : ℕ) → y < slot_places → There O' y → has y ps ≡ false
  pub sources : (l t p : ℕ) → There O' (share_port l t) → is_leaf m.job l ≡ true → t < length m.job.splits → Sources m.job m.pipes l p
      → has p ps ≡ false
  -- the splits of what stays
  pub actives : (k s : ℕ) → split_in A' k ≡ some s → split_in m.active k ≡ some s
  pub slots : (p : ℕ) → Live P' p → p < slot_places → split_in A' (slot_at_place p) ≡ split_in m.active (slot_at_place p)
  pub port_slots : (y : ℕ) → y < slot_places → There O' y → split_in A' (slot_at_place y) ≡ split_in m.active (slot_at_place y)

module _ (out : ℕ → List Row) (told : ℕ) (m : Machine) (v : Rests out told m) (ps : List ℕ) (A' : List (Option ℕ)) (P' : List Pipeline)
    (O' : List Port) (Q' : List (List Batch)) (ready' : List ℕ) (R' : List Read) (freed' : List ℕ)
    (u : Lessened ps m.pipes P' m.ready ready' m.reads R' m.freed freed') (w : Removed ps m A' P' O' Q') where
  abbrev j : Job
  j = m.job

  abbrev P : List Pipeline
  P = m.pipes

  abbrev O : List Port
  O = m.ports

  abbrev Q : List (List Batch)
  Q = m.queues

  -- what lives afterwards stays
  stays : (p : ℕ) → Live P' p → has p ps ≡ false
  stays p l = by_bool (has p ps) (λ e. clash (cc (u.dead p e))) (λ e. e)

  as_was : (p : ℕ) → Live P' p → pipe_of P' p ≡ pipe_of P p
  as_was p l = u.kept p (stays p l)

  down : (p : ℕ) → Live P' p → Live P p
  down p l = sym (ap (λ (x : Pipeline). x.live) (as_was p l)) ∙ l

  up : (p : ℕ) → has p ps ≡ false → Live P p → Live P' p
  up p e l = ap (λ (x : Pipeline). x.live) (u.kept p e) ∙ l

  state_was : (p : ℕ) → Live P' p → state_of P' p ≡ state_of P p
  state_was p l = ap (λ (x : Pipeline). x.state) (as_was p l)

  -- a port that is there
  there_was : (y : ℕ) → There O' y → There O y
  there_was y t = sym (ap (λ (x : Port). x.there) (w.same y t).0) ∙ t

  shut_was : (y : ℕ) → There O' y → shut O' y ≡ shut O y
  shut_was y t = ap (λ (x : Port). x.closed) (w.same y t).0

  reader_was : (y : ℕ) → There O' y → reader_of O' y ≡ reader_of O y
  reader_was y t = ap (λ (x : Port). x.reader) (w.same y t).0

  mark_was : (y : ℕ) → There O' y → (port_of O' y).changed ≡ (port_of O y).changed
  mark_was y t = ap (λ (x : Port). x.changed) (w.same y t).0

  by_there : {C : Type 0} (y : ℕ) → (There O' y → C) → ((port_of O' y).there ≡ false → C) → C
  by_there y f g = by_bool (port_of O' y).there f g

  removed_pipes : Pipes j A' P' m.sources m.stages m.inlets
  removed_pipes = record {
    bound = λ p l. v.pipes.bound p (down p l);
    slots = λ p l h. let g = v.pipes.slots p (down p l) h in record
        { split = g.split; is = w.slots p l h ∙ g.is; node = g.node; keep = g.keep; form = g.form };
    shares = λ p l. v.pipes.shares p (down p l);
    stages = λ p l. v.pipes.stages p (down p l);
  }

  removed_ports : Ports j A' all P' m.inlets O' Q'
  removed_ports = record {
    alive = λ p l h y. let t = w.outlets p l h in (t, shut_was p t ∙ (v.ports.alive p (down p l) h y).1);
    opens = λ y h t c. up y (w.writers y h t) (v.ports.opens y h (there_was y t) (sym (shut_was y t) ∙ c));
    inlets = λ p i y l a. let t = w.inlets p i y l a in (t, reader_was y t ∙ (v.ports.inlets p i y (down p l) a).1);
    readers = λ y p i t e. let f = sym (reader_was y t)
        ∙ e in let b = v.ports.readers y p i (there_was y t) f in (up p (w.readers y p i t f) b.0, b.1);
    slots = λ y h t. let g : SlotPort j m.active O y = v.ports.slots y h (there_was y t) in
        record {
          split = g.split;
          is = w.port_slots y h t
              ∙ g.is;
          node = g.node;
          keep = g.keep;
          read = λ e. g.read (sym (reader_was y t) ∙ e);
          root = λ e. g.root (sym (reader_was y t) ∙ e);
        };
    roots = λ k s a. let t = w.roots k s a in (t, reader_was (place k (root_of j)) t ∙ (v.ports.roots k s (w.actives k s a)).1);
    absent = λ y e. (w.void y e).0;
    blank = λ y e. (w.void y e).1;
  }

  removed_shares : Shares j no m.next m.unbuilt P' m.sources O' Q'
  removed_shares = record {
    ports = λ y h t. share_port_lem j P P' down no no m.unbuilt m.sources O O' Q Q' y (shut_was y t) (reader_was y t) (w.same y t).1
        (λ l s p i a b c z. (up p (w.sources l s p (rw i at t) a b z) z.0, λ d e. d)) (λ l s p i a b c z d. d) (v.shares.ports y h (there_was y t));
    waits = λ l t a b c h i o. let f = v.shares.waits l t a b c h i o in
        let e = w.later l t h i f.0 f.1 in (e, reader_was (share_port l t) e ∙ f.1);
    unbuilt = v.shares.unbuilt;
  }

  -- rows still to come: of a port that is gone, as of one that was never in use
  F' : ℕ → List Row
  F' y = if (port_of O' y).there then v.F y else if ltb y slot_places then v.W y else batch_rows (whole j ((y - slot_places) / 16))

  rows_was : (y : ℕ) → There O' y → F' y ≡ v.F y
  unfolding F'
  rows_was y t = rw t

  will_was : (p : ℕ) → Live P' p
      → will F' (pieces_in j p (split_in m.active (slot_at_place p))) (source_of m.sources p) (stage_of m.stages p) (inlets_of m.inlets p)
      ≡ will v.F (pieces_in j p (split_in m.active (slot_at_place p))) (source_of m.sources p) (stage_of m.stages p) (inlets_of m.inlets p)
  will_was p l = will_same v.F F' (pieces_in j p (split_in m.active (slot_at_place p))) (source_of m.sources p) (stage_of m.stages p)
      (inlets_of m.inlets p)
      (λ i y a. rows_was y (w.inlets p i y l a))

  removed_flow : Flow j A' P' m.sources m.stages m.inlets O' Q' places [] F' v.W
  unfolding F'
  removed_flow = record {
    port = λ y h. by_there y
        (λ t. rw (t, (w.same y t).1, shut_was y t) (v.flow.port y h))
        (λ t. rw (t, lt-ltb y slot_places h, (w.void y t).0, (w.void y t).1));
    share = λ l t h. let y = share_port l t in by_there y
        (λ e. rw (e, (w.same y e).1, shut_was y e) (v.flow.share l t h))
        (λ e. let d : (y - slot_places) / 16 ≡ l = omega arith in rw (e, le-ltb y slot_places (share_above l t), (w.void y e).0, (w.void y e).1, d));
    pipes = λ p h l n. v.flow.pipes p h (down p l) n ∙ rw (w.slots p l h) (sym (will_was p l));
    mine = λ h. absurd (omega arith);
    ends = λ p h l. v.flow.ends p h (down p l);
    even = λ p i h x y l s a b. rw (rows_was x (w.inlets p i x l a), rows_was y (w.inlets p h y l b)) (v.flow.even p i h x y (down p l) s a b);
  }

  removed_queued : Queued all P' ready'
  removed_queued = record {
    flags = λ p l y. rw (state_was p l, as_was p l) (v.queued.flags p (down p l) y);
    counts = λ p. by_bool (has p ps) (λ e. u.gone p e ∙ rw (u.dead p e)) (λ e. u.ready p e ∙ v.queued.counts p ∙ rw (u.kept p e));
  }

  idle_was : (y : ℕ) → There O' y → Idle O Q y → Idle O' Q' y
  idle_was y t (inl c) = inl ((w.same y t).1 ∙ c.0, shut_was y t ∙ c.1)
  idle_was y t (inr c) = inr (mark_was y t ∙ c)

  removed_waits : Waits all no P' m.sources m.inlets O' Q'
  removed_waits = record {
    on_io = λ p l y. v.waits.on_io p (down p l) y ∙ rw (state_was p l);
    on_inlet = λ p i l s. let e = v.waits.on_inlet p i (down p l)
        (sym (state_was p l) ∙ s) in (e.0, e.1, idle_was e.0 (w.inlets p i e.0 l e.1) e.2);
    on_outlet = λ p l s. let e = v.waits.on_outlet p (down p l) (sym (state_was p l) ∙ s) in (e.0, rw (w.same p (w.outlets p l e.0)).1 e.1);
  }

  -- a mark is at a port that is there
  marked_there : (y : ℕ) → (port_of O' y).changed ≡ true → There O' y
  marked_there y c = by_there y (λ t. t) (λ t. clash (cc (w.void y t).2))

  removed_quiet : Quiet all no P' O' m.touched
  removed_quiet = record {
    marks = λ y c. v.quiet.marks y (sym (mark_was y (marked_there y c)) ∙ c);
    touches = λ p l y. v.quiet.touches p (down p l) y;
    present = marked_there;
  }

  removed_reads : Reads j P' m.sources R'
  removed_reads = let R = m.reads in let f = v.reads in record {
    leaf = λ r h. rw (u.leaf r) (f.leaf r (rw u.reads at h));
    once = λ r q h i e. f.once r q (rw u.reads at h) (rw u.reads at i) (sym (u.leaf r) ∙ e ∙ u.leaf q);
    owned = λ r p h e. let g = u.owner r p e in let o = f.owned r p (rw u.reads at h)
        g.0 in (u.came r ∙ o.0, up p g.1 o.1, o.2, o.3 ∙ sym (u.leaf r));
    pended = λ p l e. let o = f.pended p (down p l) e in (o.0, rw u.reads o.1, u.came o.0 ∙ o.2, u.owns o.0 p (stays p l) o.3);
    unasked = λ p e r b l s h d. f.unasked p e r b (down p l) s (rw u.reads at h) (sym (u.leaf r) ∙ d);
    came = λ p e b l s d. let o = f.came p e b (down p l) s d in (o.0, rw u.reads o.1, u.came o.0 ∙ o.2, u.leaf o.0 ∙ o.3);
    fresh = λ p e b l. f.fresh p e b (down p l);
  }

  removed_once : Once j m.next m.unbuilt P' m.sources R'
  removed_once = record {
    single = λ p q l k. v.once.single p q (down p l) (down q k);
    unread = λ l r a c h e. v.once.unread l r a c (rw u.reads at h) (sym (u.leaf r) ∙ e);
    unsourced = λ l p a c k. v.once.unsourced l p a c (down p k);
  }

  came_was : (g : ℕ) → Came j m.reads g → Came j R' g
  came_was g c = (c.0, rw u.reads c.1, u.came c.0 ∙ c.2, rw (u.leaf c.0) c.3)

  cells_was : (cs : List Cell) → AllCame j m.reads cs → AllCame j R' cs
  cells_was [] a = tt
  cells_was (c ∷ cs) a = (came_was c.segment a.0, cells_was cs a.1)

  batches_was : (bs : List Batch) → Brought j m.reads bs → Brought j R' bs
  batches_was [] a = tt
  batches_was (b ∷ bs) a = (cells_was b.cells a.0, batches_was bs a.1)

  removed_numbers : Numbers P' freed' m.made
  removed_numbers = record { size = u.size ∙ v.numbers.size; balance = v.numbers.balance ∙ sym u.balance; few = v.numbers.few }

  inlets_was : (p i x : ℕ) → Live P' p → At (inlets_of m.inlets p) i x → (shut O' x ≡ shut O x) × (queue_of Q' x ≡ queue_of Q x)
  inlets_was p i x l a = let t = w.inlets p i x l a in (shut_was x t, (w.same x t).1)

  -- all that goes has gone
  pub removed_ok : (fin' : List Bool) (dirty' : List ℕ) (outs : List Output) → Slots j m.next A' fin' → Dirt j A' O Q dirty'
      → Splits j m.next A' outs v.F out
      → Brought j m.reads (map (λ (o : Output). o.batch) outs) → Solid (map (λ (o : Output). o.batch) outs)
      → Rests out told (with_dirty dirty' (with_active A' (with_finished fin'
      (with_outputs outs (with_freed freed' (with_reads R' (with_ready ready' (with_pipes P' (with_queues Q' (with_ports O' m))))))))))
  removed_ok fin' dirty' outs slots dirt splits brought solid = record {
    F = F';
    W = v.W;
    job = v.job;
    slots = slots;
    pipes = removed_pipes;
    ports = removed_ports;
    shares = removed_shares;
    flow = removed_flow;
    past = past_down j P P' down O O' Q Q' m.inlets inlets_was m.sources m.stages v.past;
    splits = record {
      active = λ k s a. rw (rows_was (place k (root_of j)) (w.roots k s a)) (splits.active k s a);
      over = splits.over;
      later = splits.later;
    };
    queued = removed_queued;
    waits = removed_waits;
    dirt = record { clean = λ k s a d. idle_was (place k (root_of j)) (w.roots k s a) (dirt.clean k s a d); active = dirt.active; differ = dirt.differ };
    quiet = removed_quiet;
    packs = packs_down j P P' down O O' Q Q' m.inlets inlets_was m.sources m.changed m.changed m.waits m.seen v.packs
        (λ p i x l a c. c) (λ p i x l a c. absurd (v.quiet.marks x c)) (λ p i l. v.packs.known p i (down p l));
    reads = removed_reads;
    once = removed_once;
    delivered = record {
      queues = λ y. by_there y (λ t. rw (w.same y t).1 (batches_was (queue_of Q y) (v.delivered.queues y))) (λ t. rw (w.void y t).0 tt);
      outputs = batches_was (map (λ (o : Output). o.batch) outs) brought;
      stages = λ p l c. came_was (segment_of j p) (v.delivered.stages p (down p l) c);
      solid = λ y. by_there y (λ t. rw (w.same y t).1 (v.delivered.solid y)) (λ t. rw (w.void y t).0 tt);
      solid_outs = solid;
    };
    numbers = removed_numbers;
    tells = (rw u.reads v.tells.0, rw u.reads v.tells.1);
    sound = v.sound;
  }
