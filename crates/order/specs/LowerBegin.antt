-- A split is given a free slot: nothing of it is lowered yet.
use Rattle.std.specs.Prelude.{◌≡◌, refl, ◌≢◌, true, false, ◌&&◌, not, List, [], ◌++◌, ℕ, suc, ◌<◌, length, eqb, leb, if◌then◌else◌}
use Rattle.std.proofs.Common.{sym, ap, ◌∙◌, inl, inr, arith, eq-eqb, ne_eqb}
use Rattle.std.proofs.Math.Option.{Option, none, some}
use Rattle.rules.specs.Table.{get, put, has}
use Rattle.rules.specs.Job.{Job}
use Rattle.rules.specs.Plan.{Row, root_of, keeps, leaves_of, is_shared, first_leaf}
use Rattle.rules.specs.Operators.{Source}
use Rattle.rules.specs.Machine.{Machine, Stage, place, node_at_place, slot_at_place, share_port, slot_places, places, port_at, with_next, with_active}
use Rattle.rules.specs.Ports.{is_nobody}
use Rattle.rules.specs.Shares.{is_waiting}
use Rattle.laws.specs.Table.{by_bool, by_eq, clash, same, other, and_right, and_both}
use Rattle.laws.specs.Rows.{node_rows}
use Rattle.laws.specs.NodeRows.{keeps_pair, root_rows}
use Rattle.order.specs.Inv.{Live, There, shut, port_of, pipe_of, queue_of, source_of, stage_of, inlets_of, split_in, At, bit, pieces_in, will, flat, still, Slots, Pipes, SlotPipe, SlotPort, Flow, Splits, Dirt}
use Rattle.order.specs.State.{Rests}
use Rattle.order.specs.Base.{place_node, place_slot}
use Rattle.order.specs.Tally.{sum_none, filter_fewer}
use Rattle.order.specs.SameLeaf.{all_has, leaf_of}
use Rattle.order.specs.Next.{shares_next, once_next}
use Rattle.order.specs.Lowers.{LowPorts, laid_count, Progress, ToClaim, Lowers, none_to}
use Rattle.order.specs.Kept.{will_same}
use Rattle.order.specs.Leaves.{first_same, shared_same}

-- one number
some_eq : {A : Type 0} (a b : A) → some a ≡ some b → a ≡ b
some_eq a b h = cc

-- the rows of slot k's nodes, elsewhere what was there
unfoldable slotted : Job → ℕ → ℕ → (ℕ → List Row) → ℕ → List Row
slotted j k s G x = if eqb (slot_at_place x) k then node_rows j (node_at_place x) s else G x

-- in the slot
slotted_in : (j : Job) (k s : ℕ) (G : ℕ → List Row) (x : ℕ) → slot_at_place x ≡ k → slotted j k s G x ≡ node_rows j (node_at_place x) s
unfolding slotted
slotted_in j k s G x e = rw (eq-eqb (slot_at_place x) k e)

-- outside it
slotted_out : (j : Job) (k s : ℕ) (G : ℕ → List Row) (x : ℕ) → slot_at_place x ≢ k → slotted j k s G x ≡ G x
unfolding slotted
slotted_out j k s G x e = rw (ne_eqb (slot_at_place x) k e)

-- at a node's place
slotted_node : (j : Job) (k s : ℕ) (G : ℕ → List Row) (n : ℕ) → n < 24 → slotted j k s G (place k n) ≡ node_rows j n s
slotted_node j k s G n h = slotted_in j k s G (place k n) (place_slot k n h) ∙ rw (place_node k n h)

module _ (k : ℕ) (out : ℕ → List Row) (told : ℕ) (m : Machine) (v : Rests out told m) (more : m.next < length m.job.splits) (low : k < m.job.slots) (free : split_in m.active k ≡ none) where
  abbrev j : Job
  j = m.job

  abbrev s : ℕ
  s = m.next

  abbrev A' : List (Option ℕ)
  A' = put none m.active k (some s)

  abbrev begun : Machine
  begun = with_next (suc s) (with_active A' m)

  -- the slot is one of three
  three : k < 3
  three = omega (arith, low, v.job.slots_high)

  -- nothing stands in the slot
  no_pipe : (p : ℕ) → slot_at_place p ≡ k → Live m.pipes p → ⊥
  no_pipe p e l = let y = v.pipes.slots p l (omega (arith, e, three)) in clash (cc (free, y.is, ap (λ z. split_in m.active z) e))

  -- and no port
  no_port : (x : ℕ) → slot_at_place x ≡ k → There m.ports x → ⊥
  no_port x e t = let y = v.ports.slots x (omega (arith, e, three)) t in clash (cc (free, y.is, ap (λ z. split_in m.active z) e))

  -- its places are free
  dead : (p : ℕ) → slot_at_place p ≡ k → (pipe_of m.pipes p).live ≡ false
  dead p e = by_bool (pipe_of m.pipes p).live (λ l. absurd (no_pipe p e l)) (λ l. l)

  -- and have no ports
  gone : (x : ℕ) → slot_at_place x ≡ k → (port_of m.ports x).there ≡ false
  gone x e = by_bool (port_of m.ports x).there (λ t. absurd (no_port x e t)) (λ t. t)

  -- what lives is of another slot
  live_out : (p : ℕ) → Live m.pipes p → slot_at_place p ≢ k
  live_out p l e = no_pipe p e l

  -- and so is each port
  there_out : (x : ℕ) → There m.ports x → slot_at_place x ≢ k
  there_out x t e = no_port x e t

  -- the slot's split
  mine : (t : ℕ) → split_in A' k ≡ some t → t ≡ s
  mine t a = some_eq t s (sym a ∙ rw same)

  -- the split is active in this slot only
  slots' : Slots j (suc s) A' m.finished
  slots' = record {
    bound = more;
    active = λ l t a. by_eq l k
        (λ e. (rw e low, let z = mine t (rw e at a) in omega arith))
        (λ n. let y = v.slots.active l t (rw other at a) in (y.0, omega (arith, y.1)));
    apart = λ l h t a b. by_eq l k
        (λ e. by_eq h k (λ d. e ∙ sym d) (λ n. absurd (let z = mine t (rw e at a) in let y = v.slots.active h t (rw other at b) in omega (arith, z, y.1))))
        (λ n. by_eq h k (λ d. absurd (let z = mine t (rw d at b) in let y = v.slots.active l t (rw other at a) in omega (arith, z, y.1))) (λ o. v.slots.apart l h t (rw other at a) (rw other at b)));
    over = λ t f. let y = v.slots.over t f in
        (omega (arith, y.0), λ l a. by_eq l k (λ e. let z = mine t (rw e at a) in absurd (omega (arith, z, y.0))) (λ n. y.1 l (rw other at a)));
  }

  -- a pipeline of another slot
  slot_pipe' : (p : ℕ) (src : Source) (st : Stage) (xs : List ℕ) → slot_at_place p ≢ k → SlotPipe j m.active p src st xs → SlotPipe j A' p src st xs
  slot_pipe' p src st xs n y = record { split = y.split; is = rw other y.is; node = y.node; keep = y.keep; form = y.form }

  -- a port of another slot
  slot_port' : (x : ℕ) → slot_at_place x ≢ k → SlotPort j m.active m.ports x → SlotPort j A' m.ports x
  slot_port' x n y = record { split = y.split; is = rw other y.is; node = y.node; keep = y.keep; read = y.read; root = y.root }

  -- pipelines
  pipes' : Pipes j A' m.pipes m.sources m.stages m.inlets
  pipes' = record {
    bound = v.pipes.bound;
    slots = λ p l b. slot_pipe' p (source_of m.sources p) (stage_of m.stages p) (inlets_of m.inlets p) (live_out p l) (v.pipes.slots p l b);
    shares = v.pipes.shares;
    stages = v.pipes.stages;
  }

  -- ports
  ports' : LowPorts j A' k none_to m.pipes m.inlets m.ports m.queues
  ports' = record {
    alive = λ p l b c. v.ports.alive p l b tt;
    opens = v.ports.opens;
    inlets = v.ports.inlets;
    readers = λ x p i t e. inl (v.ports.readers x p i t e);
    slots = λ x b t. slot_port' x (there_out x t) (v.ports.slots x b t);
    roots = λ l t n a. v.ports.roots l t (rw other at a);
    absent = v.ports.absent;
    blank = v.ports.blank;
  }

  abbrev F' : ℕ → List Row
  F' = slotted j k s v.F

  abbrev W' : ℕ → List Row
  W' = slotted j k s v.W

  -- the rows of inlets are the same
  inlets_same : (p : ℕ) → Live m.pipes p → (h x : ℕ) → At (inlets_of m.inlets p) h x → F' x ≡ v.F x
  inlets_same p l h x a = slotted_out j k s v.F x (there_out x (v.ports.inlets p h x l a).0)

  -- rows of a port
  port' : (x : ℕ) → x < slot_places → F' x ≡ flat (queue_of m.queues x) ++ still (shut m.ports x) (W' x)
  port' x b = by_eq (slot_at_place x) k
      (λ e. rw (slotted_in j k s v.F x e, slotted_in j k s v.W x e, v.ports.absent x (gone x e), v.ports.blank x (gone x e)))
      (λ n. rw (slotted_out j k s v.F x n, slotted_out j k s v.W x n) (v.flow.port x b))

  -- rows of a pipeline
  pipe' : (p : ℕ) → p < slot_places → Live m.pipes p → p ≢ places
      → W' p ≡ will F' (pieces_in j p (split_in A' (slot_at_place p))) (source_of m.sources p) (stage_of m.stages p) (inlets_of m.inlets p)
  pipe' p b l me = let n = live_out p l in
      slotted_out j k s v.W p n
      ∙ v.flow.pipes p b l me
      ∙ rw (
        other none m.active k (slot_at_place p) (some s) n,
        will_same v.F F' (pieces_in j p (split_in m.active (slot_at_place p))) (source_of m.sources p) (stage_of m.stages p)
            (inlets_of m.inlets p) (inlets_same p l),
      )

  -- all rows
  flow' : Flow j A' m.pipes m.sources m.stages m.inlets m.ports m.queues places [] F' W'
  flow' = record {
    port = port';
    share = λ l t h. slotted_out j k s v.F (share_port l t) (λ e. omega (arith, e, three)) ∙ v.flow.share l t h;
    pipes = pipe';
    mine = λ b. absurd (omega arith);
    ends = λ p b l e. slotted_out j k s v.W p (live_out p l) ∙ v.flow.ends p b l e;
    even = λ p i h x y l e a b. rw (inlets_same p l i x a, inlets_same p l h y b) (v.flow.even p i h x y l e a b);
  }

  -- the root has a place
  root_few : root_of j < 24
  root_few = omega (arith, v.job.nodes_high, v.job.nodes_low)

  -- the split has all its rows to come
  splits' : Splits j (suc s) A' m.outputs F' out
  splits' = record {
    active = λ l t a. by_eq l k
        (λ e. let z = mine t (rw e at a) in
        rw (e, z, slotted_node j k s v.F (root_of j) root_few, v.splits.later s (omega arith))
        (root_rows j v.job s more))
        (λ n. let y = v.splits.active l t (rw other at a) in rw (slotted_out j k s v.F (place l (root_of j)) (λ e. n (sym (place_slot l (root_of j) root_few) ∙ e))) y);
    over = λ t h n. by_eq t s
        (λ e. absurd (n k (rw (same, e))))
        (λ d. v.splits.over t (omega arith) (λ l a. by_eq l k (λ e. clash (cc (free, ap (λ z. split_in m.active z) e))) (λ o. n l (rw other a))));
    later = λ t h. v.splits.later t (omega arith);
  }

  -- the slot has nothing to take
  dirt' : Dirt j A' m.ports m.queues m.dirty
  dirt' = record {
    clean = λ l t a d. by_eq l k
        (λ e. let g = gone (place k (root_of j)) (place_slot k (root_of j) root_few) in rw e (inl (v.ports.absent (place k (root_of j)) g, v.ports.blank (place k (root_of j)) g)))
        (λ n. v.dirt.clean l t (rw other at a) d);
    active = λ l d. let y = v.dirt.active l d in by_eq l k (λ e. clash (cc (free, y.1, ap (λ z. split_in m.active z) e))) (λ n. (y.0, rw other y.1));
    differ = v.dirt.differ;
  }

  -- nothing is laid
  none_laid : laid_count k m.pipes m.ports ≡ 0
  none_laid = sum_none (λ n. bit ((pipe_of m.pipes (place k n)).live && not (port_of m.ports (place k n)).there)) 0 24
      (λ n a b. rw (dead (place k n) (place_slot k n (omega arith))))

  -- a kept leaf's port waits
  kept_waits : (g l : ℕ) → is_shared j g ≡ true → get false m.unbuilt (first_leaf j g) ≡ false → has l (leaves_of j g) ≡ true → keeps j l s ≡ true → is_waiting m (share_port l s) ≡ true
  kept_waits g l sh un h e =
      let y = leaf_of j l g h in
      let w = v.shares.waits l s y.0 (shared_same j l g y.1 ∙ sh) (rw (first_same j l g y.0 y.1) un) (omega arith) more (keeps_pair j v.job l s more y.0 e) in
      and_both (port_at m (share_port l s)).there (is_nobody (port_at m (share_port l s)).reader) w.0 (ap is_nobody w.1)

  -- what the leaves will find
  claims' : ToClaim s 0 begun
  claims' = record {
    ports = λ g a sh un. filter_fewer (λ l. leb 0 l && keeps j l s) (λ l. is_waiting m (share_port l s)) (leaves_of j g)
        (all_has (λ l. leb 0 l && keeps j l s ≡ true → is_waiting m (share_port l s) ≡ true) (leaves_of j g) (λ l h e. kept_waits g l sh un h (and_right (leb 0 l) (keeps j l s) e)));
    unread = λ l r h a e sh. v.once.unread l r a (inr (sh, (s, omega arith, more, keeps_pair j v.job l s more a e)));
    unsourced = λ l p h a e sh. v.once.unsourced l p a (inr (sh, (s, omega arith, more, keeps_pair j v.job l s more a e)));
  }

  -- nothing is lowered
  progress' : Progress j k s 0 m.pipes m.ports
  progress' = record {
    laid = λ n h. absurd (omega arith);
    unlaid = λ n h b. (dead (place k n) (place_slot k n b), gone (place k n) (place_slot k n b));
    joined = λ n q h. absurd (omega arith);
    unjoined = λ n q e h. gone (place k n) (place_slot k n (let z = v.job.up n q e in omega (arith, z.0, z.1, v.job.nodes_high)));
    rootless = gone (place k (root_of j)) (place_slot k (root_of j) root_few);
    calm = λ n b l t. absurd (no_pipe (place k n) (place_slot k n b) l);
  }

  -- nothing is lowered yet
  pub lower_begin : Lowers k s 0 none_to out told begun
  lower_begin = record {
    F = F';
    W = W';
    job = v.job;
    slot_below = three;
    split = rw same;
    is_next = refl;
    slots = slots';
    pipes = pipes';
    ports = ports';
    shares = shares_next j (λ p. ⊥) s m.unbuilt m.pipes m.sources m.ports m.queues v.shares;
    flow = flow';
    past = v.past;
    splits = splits';
    queued = record { flags = λ p l c. v.queued.flags p l tt; counts = v.queued.counts };
    waits = v.waits;
    dirt = dirt';
    quiet = v.quiet;
    packs = v.packs;
    reads = v.reads;
    once = once_next j s m.unbuilt m.pipes m.sources m.reads v.once;
    delivered = v.delivered;
    numbers = record { size = v.numbers.size; balance = omega (arith, v.numbers.balance, none_laid); few = v.numbers.few };
    tells = v.tells;
    sound = v.sound;
    rows = λ n h. let few : n < 24 = omega (arith, h, v.job.nodes_high) in (slotted_node j k s v.F n few, slotted_node j k s v.W n few);
    progress = progress';
    claims = claims';
  }
