-- A pipeline that is done goes.
use Rattle.std.specs.Prelude.{◌≡◌, ◌≢◌, true, ℕ, ◌+◌, ◌-◌, ◌/◌, ◌<◌, ◌≤◌, length, ltb, if◌then◌else◌}
use Rattle.std.proofs.Math.Path.{sym, ap}
use Rattle.std.proofs.Common.{◌∙◌, inl, inr}
use Rattle.std.proofs.Math.Bool.{false}
use mathlib.Core.List.{List, [], ◌∷◌}
use Rattle.std.proofs.Math.Option.{some}
use native.Mathlib.Omega.{arith}
use borrow.Author.Tests.{lt-ltb, le-ltb, ne_eqb}
use Rattle.rules.specs.Table.{put, has, is_some}
use Rattle.rules.specs.Plan.{Row, root_of}
use Rattle.rules.specs.Port.{Batch, batch_rows}
use Rattle.rules.specs.Machine.{Machine, Pipeline, pipe, Port, no_pipe, no_port, place, slot_at_place, share_port, slot_places, places, pipe_at}
use Rattle.rules.specs.Pipelines.{gone, retire}
use Rattle.laws.specs.Table.{by_bool, by_eq, clash, same, other, put_length, by_option}
use Rattle.order.specs.Inv.{Live, There, shut, port_of, reader_of, pipe_of, source_of, stage_of, inlets_of, queue_of, split_in, At, Ports, SlotPort, Shares, Flow, whole, will, pieces_in, Queued, Waits, Idle, Ended, read_at, bit, lives, pend, state_of, Numbers}
use Rattle.order.specs.State.{Inv, all, no, Rests, OutletOf}
use Rattle.order.specs.Base.{share_above}
use Rattle.order.specs.Count.{lives_some}
use Rattle.order.specs.Frame.{pipes_down, once_down, reads_down, past_down, packs_down, share_port_lem}
use Rattle.order.specs.Clear.{clear, clear_out, clear_in, retire_is}
use Rattle.order.specs.Lists.{at_has, has_at}
use Rattle.order.specs.Kept.{will_same}
use Rattle.order.specs.Tally.{lives_put}

module _ (out : ℕ → List Row) (told me : ℕ) (m : Machine) (v : Inv places [] (λ p. p ≢ me) (λ p. p ≢ me) no no (λ p. p ≡ me) out told m)
    (l : Live m.pipes me) (unqueued : (pipe_of m.pipes me).queued ≡ false) (calm : pend (source_of m.sources me) ≡ false)
    (ends : (i x : ℕ) → At (inlets_of m.inlets me) i x → Ended m.ports m.queues x)
    (closes : (x : ℕ) → OutletOf m.job me x → There m.ports x → shut m.ports x ≡ true) where
  -- the tables afterwards
  abbrev mine : List ℕ
  mine = inlets_of m.inlets me

  abbrev P' : List Pipeline
  P' = put no_pipe m.pipes me (gone (pipe_at m me))

  abbrev O' : List Port
  O' = clear no_port mine m.ports

  abbrev Q' : List (List Batch)
  Q' = clear [] mine m.queues

  -- those in use are the others
  away : (p : ℕ) → Live P' p → p ≢ me
  away p k e = clash (cc (ap (λ (y : Pipeline). y.live) (same no_pipe m.pipes me (gone (pipe_at m me))), rw e at k))

  down : (p : ℕ) → Live P' p → Live m.pipes p
  down p k = let n : p ≢ me = away p k in rw other at k

  up : (p : ℕ) → p ≢ me → Live m.pipes p → Live P' p
  up p n k = rw other k

  -- and they are as they were
  pipe_out : (p : ℕ) → p ≢ me → pipe_of P' p ≡ pipe_of m.pipes p
  pipe_out p n = other no_pipe m.pipes me p (gone (pipe_at m me)) n

  state_out : (p : ℕ) → Live P' p → state_of P' p ≡ state_of m.pipes p
  state_out p k = ap (λ (y : Pipeline). y.state) (pipe_out p (away p k))

  -- a port that is not freed
  port_out : (x : ℕ) → has x mine ≡ false → port_of O' x ≡ port_of m.ports x
  port_out x e = clear_out no_port mine m.ports x e

  queue_out : (x : ℕ) → has x mine ≡ false → queue_of Q' x ≡ queue_of m.queues x
  queue_out x e = clear_out [] mine m.queues x e

  shut_out : (x : ℕ) → has x mine ≡ false → shut O' x ≡ shut m.ports x
  shut_out x e = ap (λ (y : Port). y.closed) (port_out x e)

  there_out : (x : ℕ) → has x mine ≡ false → (port_of O' x).there ≡ (port_of m.ports x).there
  there_out x e = ap (λ (y : Port). y.there) (port_out x e)

  reader_out : (x : ℕ) → has x mine ≡ false → reader_of O' x ≡ reader_of m.ports x
  reader_out x e = ap (λ (y : Port). y.reader) (port_out x e)

  mark_out : (x : ℕ) → has x mine ≡ false → (port_of O' x).changed ≡ (port_of m.ports x).changed
  mark_out x e = ap (λ (y : Port). y.changed) (port_out x e)

  -- a freed port was read by the one that goes
  not_mine : (x : ℕ) → ((i : ℕ) → reader_of m.ports x ≢ pipe me i) → has x mine ≡ false
  not_mine x h = by_bool (has x mine) (λ e. let a = has_at mine x e in absurd (h a.0 (v.ports.inlets me a.0 x l a.1).1)) (λ e. e)

  -- none of those is there any more
  still_there : (x : ℕ) → There O' x → has x mine ≡ false
  still_there x t = by_bool (has x mine) (λ e. clash (cc (ap (λ (y : Port). y.there) (clear_in no_port mine m.ports x e), t))) (λ e. e)

  -- nor was it open
  open_out : (x : ℕ) → shut m.ports x ≡ false → has x mine ≡ false
  open_out x c = by_bool (has x mine) (λ e. let a = has_at mine x e in clash (cc (c, (ends a.0 x a.1).0))) (λ e. e)

  -- nor is it read by another
  inlet_out : (p i x : ℕ) → Live P' p → At (inlets_of m.inlets p) i x → has x mine ≡ false
  inlet_out p i x k a = not_mine x (λ h e. away p k (cc (e, (v.ports.inlets p i x (down p k) a).1)))

  root_out : (k s : ℕ) → split_in m.active k ≡ some s → has (place k (root_of m.job)) mine ≡ false
  root_out k s a = not_mine (place k (root_of m.job)) (λ h e. clash (cc (e, (v.ports.roots k s a).1)))

  -- nor does another write it
  live_out : (p : ℕ) → Live P' p → p < slot_places → has p mine ≡ false
  live_out p k h = open_out p (v.ports.alive p (down p k) h (away p k)).1

  -- ports name those in use
  ports_after : Ports m.job m.active all P' m.inlets O' Q'
  ports_after = record {
    alive = λ p k h w. let a = v.ports.alive p (down p k) h (away p k) in let e : has p mine ≡ false = live_out p k h in (there_out p e ∙ a.0, shut_out p e ∙ a.1);
    opens = λ x h t c. let e : has x mine ≡ false = still_there x t in
        let t' : There m.ports x = sym (there_out x e) ∙ t in
        let c' : shut m.ports x ≡ false = sym (shut_out x e) ∙ c in
        up x (λ i. clash (cc (c', closes x (inl (rw i at h, i)) t'))) (v.ports.opens x h t' c');
    inlets = λ p i x k a. let b = v.ports.inlets p i x (down p k) a in let e : has x mine ≡ false = inlet_out p i x k a in (there_out x e ∙ b.0, reader_out x e ∙ b.1);
    readers = λ x p i t r. let e : has x mine ≡ false = still_there x t in
        let b = v.ports.readers x p i (sym (there_out x e) ∙ t) (sym (reader_out x e) ∙ r) in
        (up p (λ h. clash (cc (e, at_has mine i x (rw h at b.1)))) b.0, b.1);
    slots = λ x h t. let e : has x mine ≡ false = still_there x t in
        let s : SlotPort m.job m.active m.ports x = v.ports.slots x h (sym (there_out x e) ∙ t) in
        record { split = s.split; is = s.is; node = s.node; keep = s.keep; read = λ r. s.read (sym (reader_out x e) ∙ r); root = λ r. s.root (sym (reader_out x e) ∙ r) };
    roots = λ k s a. let b = v.ports.roots k s a in let e = root_out k s a in (there_out (place k (root_of m.job)) e ∙ b.0, reader_out (place k (root_of m.job)) e ∙ b.1);
    absent = λ x t. by_bool (has x mine) (λ e. clear_in [] mine m.queues x e) (λ e. queue_out x e ∙ v.ports.absent x (sym (there_out x e) ∙ t));
    blank = λ x t. by_bool (has x mine) (λ e. ap (λ (y : Port). y.closed) (clear_in no_port mine m.ports x e)) (λ e. shut_out x e ∙ v.ports.blank x (sym (there_out x e) ∙ t));
  }

  -- no shared source has emitted and not closed
  shares_after : Shares m.job no m.next m.unbuilt P' m.sources O' Q'
  shares_after = record {
    ports = λ x h t. let e : has x mine ≡ false = still_there x t in
        let t' : There m.ports x = sym (there_out x e) ∙ t in
        share_port_lem m.job m.pipes P' down (λ p. p ≡ me) no m.unbuilt m.sources m.ports O' m.queues Q' x (shut_out x e) (reader_out x e) (queue_out x e)
        (λ k s p i a b c u. let n : p ≢ me = λ d. clash (cc (c, closes x (inr (rw d at u.1, (k, s, b, i, a, rw d at (sym u.2)))) t')) in (up p n u.0, λ d f. n d))
        (λ k s p i a b c u d. away p u.0 d) (v.shares.ports x h t');
    waits = λ k t a b c h i o. let w = v.shares.waits k t a b c h i o in
        let e : has (share_port k t) mine ≡ false = not_mine (share_port k t) (λ g r. clash (cc (r, w.1))) in
        (there_out (share_port k t) e ∙ w.0, reader_out (share_port k t) e ∙ w.1);
    unbuilt = v.shares.unbuilt;
  }

  -- rows still to come: of a freed port, as of one that was never in use
  F' : ℕ → List Row
  F' x = if has x mine then if ltb x slot_places then v.W x else batch_rows (whole m.job ((x - slot_places) / 16)) else v.F x

  -- the other ports have the same rows to come
  rows_out : (x : ℕ) → has x mine ≡ false → F' x ≡ v.F x
  unfolding F'
  rows_out x e = rw e

  -- and the other pipelines to write
  will_after : (p : ℕ) → Live P' p
      → will F' (pieces_in m.job p (split_in m.active (slot_at_place p))) (source_of m.sources p) (stage_of m.stages p) (inlets_of m.inlets p)
      ≡ will v.F (pieces_in m.job p (split_in m.active (slot_at_place p))) (source_of m.sources p) (stage_of m.stages p) (inlets_of m.inlets p)
  will_after p k = will_same v.F F' (pieces_in m.job p (split_in m.active (slot_at_place p))) (source_of m.sources p) (stage_of m.stages p)
      (inlets_of m.inlets p)
      (λ i x a. rows_out x (inlet_out p i x k a))

  -- so rows to come are accounted for
  flow_after : Flow m.job m.active P' m.sources m.stages m.inlets O' Q' places [] F' v.W
  unfolding F'
  flow_after = record {
    port = λ x h. by_bool (has x mine)
        (λ e. let c : shut O' x ≡ false = ap (λ (y : Port). y.closed) (clear_in no_port mine m.ports x e) in rw (e, lt-ltb x slot_places h, clear_in [] mine m.queues x e, c))
        (λ e. rw (e, queue_out x e, shut_out x e) (v.flow.port x h));
    share = λ k t h. let x = share_port k t in by_bool (has x mine)
        (λ e. let c : shut O' x ≡ false = ap (λ (y : Port). y.closed) (clear_in no_port mine m.ports x e) in
        let d : (x - slot_places) / 16 ≡ k = omega arith in
        rw (e, le-ltb x slot_places (share_above k t), clear_in [] mine m.queues x e, c, d))
        (λ e. rw (e, queue_out x e, shut_out x e) (v.flow.share k t h));
    pipes = λ p h k n. v.flow.pipes p h (down p k) n ∙ sym (will_after p k);
    mine = λ h k. clash (let c : 96 < 72 = h in omega arith);
    ends = λ p h k. v.flow.ends p h (down p k);
    even = λ p i h x y k s a b. rw (rows_out x (inlet_out p i x k a), rows_out y (inlet_out p h y k b)) (v.flow.even p i h x y (down p k) s a b);
  }

  -- who waits for a port waits still
  idle_out : (x : ℕ) → has x mine ≡ false → Idle m.ports m.queues x → Idle O' Q' x
  idle_out x e (inl c) = inl (queue_out x e ∙ c.0, shut_out x e ∙ c.1)
  idle_out x e (inr c) = inr (mark_out x e ∙ c)

  waits_after : Waits all no P' m.sources m.inlets O' Q'
  waits_after = record {
    on_io = λ p k w. rw (state_out p k) (v.waits.on_io p (down p k) (away p k));
    on_inlet = λ p i k s. let w = v.waits.on_inlet p i (down p k) (sym (state_out p k) ∙ s) in (w.0, w.1, idle_out w.0 (inlet_out p i w.0 k w.1) w.2);
    on_outlet = λ p k s. let w = v.waits.on_outlet p (down p k) (sym (state_out p k) ∙ s) in (w.0, rw (queue_out p (live_out p k w.0)) w.1);
  }

  -- a mark, or a batch, is in a port that is not freed
  marked_out : (x : ℕ) → (port_of O' x).changed ≡ true → has x mine ≡ false
  marked_out x c = by_bool (has x mine) (λ e. clash (cc (c, ap (λ (y : Port). y.changed) (clear_in no_port mine m.ports x e)))) (λ e. e)

  -- it was not on the stack
  queued_after : Queued all P' m.ready
  queued_after = record {
    flags = λ p k w. rw (state_out p k, pipe_out p (away p k)) (v.queued.flags p (down p k) (away p k));
    counts = λ p. by_eq p me (λ e. rw (e, same) (v.queued.counts me ∙ rw (l, unqueued))) (λ n. rw (pipe_out p n) (v.queued.counts p));
  }

  -- no read in flight waits for it
  unowned : (r : ℕ) → r < length m.reads → is_some me (read_at m.reads r).owner ≡ false
  unfolding is_some
  unowned r h = by_option (read_at m.reads r).owner (λ e. rw e)
      (λ p e. let o = v.reads.owned r p h e in rw e (ne_eqb me p (λ i. clash (cc (calm, rw (← i) at o.2)))))

  -- the number that it had finds place
  room : length m.freed < places
  room = let a : 1 ≤ lives m.pipes = lives_some m.pipes me l in omega (arith, v.numbers.few, v.numbers.balance)

  size : me < length m.pipes
  size = rw v.numbers.size (v.pipes.bound me l)

  -- as many numbers as before are in use or freed
  numbers_after : Numbers P' ((pipe_at m me).number ∷ m.freed) m.made
  numbers_after = record {
    size = put_length no_pipe m.pipes me (gone (pipe_at m me)) size ∙ v.numbers.size;
    balance = let a : lives P' + bit (pipe_of m.pipes me).live ≡ lives m.pipes + bit false = lives_put m.pipes me (gone (pipe_at m me)) in
        let b : lives P' + 1 ≡ lives m.pipes + 0 = rw l at a in omega (arith, v.numbers.balance, b);
    few = v.numbers.few;
  }

  -- at Done the pipeline goes: nothing runs any more
  pub retire_ok : Rests out told (retire me m)
  retire_ok = rw (retire_is me m (λ x e. let a = has_at mine x e in (ends a.0 x a.1).0) unowned room) (record {
    F = F';
    W = v.W;
    job = v.job;
    slots = v.slots;
    pipes = pipes_down m.job m.pipes P' down m.active m.sources m.stages m.inlets v.pipes;
    ports = ports_after;
    shares = shares_after;
    flow = flow_after;
    past = past_down m.job m.pipes P' down m.ports O' m.queues Q' m.inlets inlets_out m.sources m.stages v.past;
    splits = record {
      active = λ k s a. rw (rows_out (place k (root_of m.job)) (root_out k s a)) (v.splits.active k s a);
      over = v.splits.over;
      later = v.splits.later;
    };
    queued = queued_after;
    waits = waits_after;
    dirt = record { clean = λ k s a d. idle_out (place k (root_of m.job)) (root_out k s a) (v.dirt.clean k s a d); active = v.dirt.active; differ = v.dirt.differ };
    quiet = record {
      marks = λ x c. v.quiet.marks x (sym (mark_out x (marked_out x c)) ∙ c);
      touches = λ p k w. v.quiet.touches p (down p k) (away p k);
      present = λ x c. absurd (v.quiet.marks x (sym (mark_out x (marked_out x c)) ∙ c));
    };
    packs = packs_down m.job m.pipes P' down m.ports O' m.queues Q' m.inlets inlets_out m.sources m.changed m.changed m.waits m.seen v.packs
        (λ p i x k a c. c) (λ p i x k a c. absurd (v.quiet.marks x c)) (λ p i k. v.packs.known p i (down p k));
    reads = reads_down m.job m.pipes P' down m.sources m.reads (λ p k e. up p (λ i. clash (cc (calm, e))) k) v.reads;
    once = once_down m.job m.pipes P' down m.next m.unbuilt m.sources m.reads v.once;
    delivered = record {
      queues = λ x. by_bool (has x mine) (λ e. rw (clear_in [] mine m.queues x e) tt) (λ e. rw (queue_out x e) (v.delivered.queues x));
      outputs = v.delivered.outputs;
      solid = λ x. by_bool (has x mine) (λ e. rw (clear_in [] mine m.queues x e) tt) (λ e. rw (queue_out x e) (v.delivered.solid x));
      solid_outs = v.delivered.solid_outs;
      stages = λ p k. v.delivered.stages p (down p k);
    };
    numbers = numbers_after;
    tells = v.tells;
    sound = v.sound;
  })
    where
      inlets_out : (p i x : ℕ) → Live P' p → At (inlets_of m.inlets p) i x → (shut O' x ≡ shut m.ports x) × (queue_of Q' x ≡ queue_of m.queues x)
      inlets_out p i x k a = (shut_out x (inlet_out p i x k a), queue_out x (inlet_out p i x k a))
