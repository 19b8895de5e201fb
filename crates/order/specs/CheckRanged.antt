-- What passes check 12 is in range.
use Rattle.std.specs.Prelude.{◌≡◌, ◌⊎◌, true, false, ◌&&◌, ◌||◌, not, ℕ, ◌-◌, ◌/◌, ◌%◌, ◌<◌, ◌≤◌, eqb, ltb, if◌then◌else◌}
use Rattle.std.proofs.Math.Path.{refl, ap}
use Rattle.std.proofs.Math.Logic.{inl, inr}
use mathlib.Core.List.{List, [], ◌∷◌}
use Rattle.std.proofs.Math.Option.{Option, none, some}
use Rattle.std.proofs.Common.{arith}
use Rattle.std.proofs.Math.ListN.{length}
use borrow.Author.Tests.{lt-ltb, le-ltb, ltb-true, ltb-false, le-leb, lt-leb, leb-true, leb-false, eqb-true, not-true}
use Rattle.rules.specs.Table.{get, all, each, given, up_from}
use Rattle.rules.specs.Job.{max_rows}
use Rattle.rules.specs.Plan.{Cell, node_of, root_of, is_leaf}
use Rattle.rules.specs.Port.{Batch}
use Rattle.rules.specs.Machine.{Machine, Reader, nobody, slot, pipe, Port, Read, Output, no_pipe, no_port, place, node_at_place, slot_at_place, is_share_port, slot_places, places, port_places, port_at, queue_at, source_at, live}
use Rattle.rules.specs.Check.{check, job_ok, counts_ok, lists_ok, read_ok, owner_ok, slot_ok, split_ok, is_active, is_source, is_first, place_ok, pipe_ok, reader_ok, bounded_ok, shared_ok, whole_batch, port_ok, queue_ok, batch_ok}
use Rattle.laws.specs.Table.{by_bool, by_list, clash, and_left, get_past}
use Rattle.laws.specs.JobOk.{JobOk}
use Rattle.laws.specs.Stored.{stored_ok, both}
use Rattle.laws.specs.Rows.{All}
use Rattle.laws.specs.KidPlaces.{All-map}
use Rattle.order.specs.Inv.{Live, There, pipe_of, port_of, reader_of, inlets_of, queue_of, split_in, whole}
use Rattle.order.specs.Base.{get_at, nobody_is}
use Rattle.order.specs.Each.{both3, both4, true_all, true_each, below_all}
use Rattle.order.specs.Ranged.{Sizes, PlaceRange, PipeRange, ReaderRange, PortRange, QueueRange, IsFirst, ListRange, Ranged}

-- Parts

some_given : (o : Option ℕ) → given o ≡ true → (s : ℕ) × (o ≡ some s)
unfolding given
some_given none e = clash (cc)
some_given (some s) e = (s, refl)

place_range : (m : Machine) (p : ℕ) → place_ok m p ≡ true → PlaceRange m p
place_range m p h =
    let b = both _ _ h in
    (ltb-true _ _ b.0, (λ l. some_given (get none m.active (slot_at_place p)) (rw (lt-ltb p slot_places l) at b.1)), λ l. rw (le-ltb p slot_places l) at b.1)

first_is : (m : Machine) (g : ℕ) → is_first m g ≡ true → IsFirst m.job g
first_is m g h = let b = both _ _ h in (b.0, eqb-true _ _ b.1)

-- the parts of check 12
pub record Passes (m : Machine) : Type 0 where
  pub job : job_ok m.job ≡ true
  pub counts : counts_ok m ≡ true
  pub lists : lists_ok m ≡ true
  pub pipes : each (pipe_ok m) 0 m.pipes ≡ true
  pub ports : each (port_ok m) 0 m.ports ≡ true
  pub queues : each (queue_ok m) 0 m.queues ≡ true

pub passes : (m : Machine) → check m ≡ true → Passes m
unfolding check
passes m h =
    let a = both _ _ h in
    let b = both _ _ a.0 in
    let c = both _ _ b.0 in
    let d = both _ _ c.0 in
    let e = both _ _ d.0 in
    record { job = e.0; counts = e.1; lists = d.1; pipes = c.1; ports = b.1; queues = a.1 }

-- all that check 12 asks
record Checks (m : Machine) : Type 0 where
  sizes : Sizes m
  job : JobOk m.job
  counts : counts_ok m ≡ true
  lists : lists_ok m ≡ true
  pipes : (p : ℕ) → p < places → pipe_ok m p (pipe_of m.pipes p) ≡ true
  ports : (x : ℕ) → x < port_places → port_ok m x (port_of m.ports x) ≡ true
  queues : (x : ℕ) → x < port_places → queue_ok m x (queue_of m.queues x) ≡ true

checks : (m : Machine) → Sizes m → ((n : ℕ) → (node_of m.job n).rows ≤ max_rows) → check m ≡ true → Checks m
checks m z n h =
    let k = passes m h in
    record {
      sizes = z;
      job = stored_ok m.job n k.job;
      counts = k.counts;
      lists = k.lists;
      pipes = λ p l. true_each (pipe_ok m) no_pipe m.pipes k.pipes p (rw z.pipes l);
      ports = λ x l. true_each (port_ok m) no_port m.ports k.ports x (rw z.ports l);
      queues = λ x l. true_each (queue_ok m) [] m.queues k.queues x (rw z.queues l);
    }

module _ (m : Machine) (c : Checks m) where
  -- a slot in use
  active_range : (k s : ℕ) → all (slot_ok m) (up_from 0 3) ≡ true → split_in m.active k ≡ some s → (k < m.job.slots) × (s < length m.job.splits)
  unfolding given
  active_range k s h e = by_bool (ltb k 3)
      (λ l. let t = both (split_ok m (split_in m.active k)) (not (is_active m k) || (ltb k m.job.slots && (port_at m (place k (root_of m.job))).there)) (below_all (slot_ok m) 3 k h (ltb-true k 3 l)) in
      let u = both (ltb k m.job.slots) (port_at m (place k (root_of m.job))).there (rw e at t.1) in
      (ltb-true _ _ u.0, ltb-true _ _ (rw e at t.0)))
      (λ l. clash (cc (e, get_past none m.active k (omega (arith, c.sizes.active, ltb-false k 3 l)))))

  read_range : (r : Read) → read_ok m r ≡ true → IsFirst m.job r.leaf × ((p : ℕ) → r.owner ≡ some p → p < places)
  read_range r h =
      let b = both (is_first m r.leaf) (owner_ok m r.owner) h in
      (first_is m r.leaf b.0, λ p e. let q : ltb p places && live m p && is_source (source_at m p) ≡ true = rw e at b.1 in ltb-true _ _ (both3 _ _ _ q).0)

  unbuilt_range : (g : ℕ) → all (λ g. not (get false m.unbuilt g) || is_first m g) (up_from 0 24) ≡ true → get false m.unbuilt g ≡ true → IsFirst m.job g
  unbuilt_range g h e = by_bool (ltb g 24)
      (λ l. first_is m g (rw e at (below_all (λ g. not (get false m.unbuilt g) || is_first m g) 24 g h (ltb-true g 24 l))))
      (λ l. clash (cc (e, get_past false m.unbuilt g (omega (arith, c.sizes.unbuilt, ltb-false g 24 l)))))

  few_dirty : length m.dirty ≤ m.job.slots → length m.dirty ≤ 3
  few_dirty h = omega (arith, c.job.slots_high)

  list_range : ListRange m
  unfolding counts_ok lists_ok
  list_range =
      let x1 = both _ _ c.counts in
      let x2 = both _ _ x1.0 in
      let x3 = both _ _ x2.0 in
      let x4 = both _ _ x3.0 in
      let x5 = both _ _ x4.0 in
      let x6 = both _ _ x5.0 in
      let x7 = both _ _ x6.0 in
      let x8 = both _ _ x7.0 in
      let y1 = both _ _ c.lists in
      let y2 = both _ _ y1.0 in
      let y3 = both _ _ y2.0 in
      let y4 = both _ _ y3.0 in
      let y5 = both _ _ y4.0 in
      let y6 = both _ _ y5.0 in
      let y7 = both _ _ y6.0 in
      let a : (k s : ℕ) → split_in m.active k ≡ some s → (k < m.job.slots) × (s < length m.job.splits) = λ k s. active_range k s y2.1 in
      record {
        is_next = leb-true _ _ x8.0;
        made = leb-true _ _ x8.1;
        freed_size = leb-true _ _ x7.1;
        ready_size = leb-true _ _ x6.1;
        reads_size = leb-true _ _ x5.1;
        news_size = leb-true _ _ x4.1;
        dirty_size = few_dirty (leb-true _ _ x3.1);
        outputs_size = leb-true _ _ x2.1;
        active = a;
        freed = All-map _ _ (λ n h. ltb-true _ _ h) m.freed (true_all _ m.freed y7.0);
        ready = All-map _ _ (λ p h. ltb-true _ _ (both _ _ h).0) m.ready (true_all _ m.ready y7.1);
        reads = All-map _ _ (λ r h. (read_range r h).0) m.reads (true_all _ m.reads y6.1);
        owners = All-map _ _ (λ r h. (read_range r h).1) m.reads (true_all _ m.reads y6.1);
        news = All-map _ _ (λ n h. ltb-true _ _ h) m.news (true_all _ m.news y5.1);
        dirty = All-map _ _ (λ k h. let g = some_given (get none m.active k) h in (a k g.0 g.1).0) m.dirty (true_all _ m.dirty y4.1);
        outputs = All-map _ _ (λ (o : Output) h. let b = both _ _ h in (ltb-true _ _ b.0, b.1)) m.outputs (true_all _ m.outputs y3.1);
        unbuilt = λ g. unbuilt_range g y1.1;
      }

  -- Pipelines

  -- a pipeline or a port in use has its place
  live_below : (p : ℕ) → Live m.pipes p → p < places
  live_below p l = by_bool (ltb p places) (λ h. ltb-true p places h)
      (λ h. clash (cc (l, get_past no_pipe m.pipes p (omega (arith, c.sizes.pipes, ltb-false p places h)))))

  there_below : (x : ℕ) → There m.ports x → x < port_places
  there_below x t = by_bool (ltb x port_places) (λ h. ltb-true x port_places h)
      (λ h. clash (cc (t, get_past no_port m.ports x (omega (arith, c.sizes.ports, ltb-false x port_places h)))))

  pipe_range : (p : ℕ) → Live m.pipes p → PipeRange m p
  unfolding pipe_ok
  pipe_range p l =
      let b : p < places = live_below p l in
      let x1 = both _ _ (rw (l, pipe_ok) at (c.pipes p b)) in
      let x2 = both _ _ x1.0 in
      let x3 = both _ _ x2.0 in
      let x4 = both _ _ x3.0 in
      let x5 = both _ _ x4.0 in
      let x6 = both _ _ x5.0 in
      let x7 = both _ _ x6.0 in
      let x8 = both _ _ x7.0 in
      record {
        bound = b;
        place = place_range m p x8.0;
        number = ltb-true _ _ x8.1;
        source = x7.1;
        stage = x6.1;
        state = x5.1;
        changed = x4.1;
        touched = x3.1;
      }

  -- Ports

  reader_range : (x : ℕ) (r : Reader) → reader_ok m x r ≡ true → ReaderRange m x r
  reader_range x nobody h = tt
  reader_range x slot h = let b = both _ _ h in (leb-false slot_places x (not-true _ b.0), eqb-true _ _ b.1)
  reader_range x (pipe p i) h =
      let b = both3 _ _ _ h in
      let d = both3 _ _ _ b.1 in
      (ltb-true _ _ b.0, d.0, rw (eqb-true (get port_places (inlets_of m.inlets p) i) x d.2) at (get_at port_places (inlets_of m.inlets p) i (ltb-true _ _ d.1)))

  -- what check 12 says of a port in use
  port_parts : (x : ℕ) → There m.ports x → (reader_ok m x (reader_of m.ports x) ≡ true) × ((if is_share_port x then shared_ok m x else bounded_ok m x) ≡ true)
  unfolding port_ok
  port_parts x t = both _ _ (rw (t, port_ok) at (c.ports x (there_below x t)))

  bounded_parts : (x : ℕ) → There m.ports x → x < slot_places → PlaceRange m x × (length (queue_at m x) ≤ 8)
      × All (λ b. batch_ok m.job (node_of m.job (node_at_place x)).width b ≡ true) (queue_at m x)
  bounded_parts x t h =
      let b = both4 _ _ _ _ (rw (lt-leb slot_places x h) at (port_parts x t).1) in
      (place_range m x b.0, leb-true _ _ b.2, true_all _ (queue_at m x) b.3)

  shared_parts : (x : ℕ) → There m.ports x → slot_places ≤ x
      → (is_leaf m.job ((x - slot_places) / 16) ≡ true) × ((x - slot_places) % 16 < length m.job.splits) × (length (queue_at m x) ≤ 1) × (all (whole_batch m ((x - slot_places) / 16)) (queue_at m x) ≡ true)
  shared_parts x t h =
      let a = both _ _ (rw (le-leb slot_places x h) at (port_parts x t).1) in
      let b = both4 _ _ _ _ a.0 in
      (b.0, ltb-true _ _ b.1, leb-true _ _ b.3, a.1)

  port_range : (x : ℕ) → There m.ports x → PortRange m x
  port_range x t = record {
    bound = there_below x t;
    place = λ h. (bounded_parts x t h).0;
    share = λ h. let b = shared_parts x t h in ((x - slot_places) / 16, (x - slot_places) % 16, omega arith, b.1, b.0);
    reader = reader_range x (reader_of m.ports x) (port_parts x t).0;
  }

  -- Queues

  -- what is not in a port in use is empty
  queue_none : (x : ℕ) → (port_of m.ports x).there ≡ false → queue_of m.queues x ≡ []
  unfolding queue_ok
  queue_none x e = by_list (queue_of m.queues x) (λ q. q) (λ b bs q. by_bool (ltb x port_places)
      (λ h. clash (cc (e, rw q at (c.queues x (ltb-true x port_places h)))))
      (λ h. get_past [] m.queues x (omega (arith, c.sizes.queues, ltb-false x port_places h))))

  -- the one cell of a whole segment
  cells_are : (cs : List Cell) (g : ℕ) → all (λ (d : Cell). eqb d.segment g && eqb d.row 0) cs ≡ true → length cs ≡ 1 → cs ≡ record { segment = g; row = 0 } ∷ []
  unfolding all
  cells_are [] g h e = absurd (omega arith)
  cells_are (d ∷ []) g h e = let b = both _ _ (and_left _ _ h) in let s : d.segment ≡ g = eqb-true _ _ b.0 in let r : d.row ≡ 0 = eqb-true _ _ b.1 in λ i. record { segment = s i; row = r i } ∷ []
  cells_are (d ∷ f ∷ cs) g h e = absurd (omega arith)

  whole_is : (l : ℕ) (b : Batch) → whole_batch m l b ≡ true → (b ≡ whole m.job l) × (1 ≤ (node_of m.job l).rows)
  whole_is l b h =
      let t = both4 _ _ _ _ h in
      let r : b.rows ≡ (node_of m.job l).rows = eqb-true _ _ t.0 in
      let s : b.cells ≡ record { segment = (node_of m.job l).segment; row = 0 } ∷ [] = cells_are b.cells (node_of m.job l).segment t.2 (eqb-true _ _ t.3) in
      (λ i. record { rows = r i; cells = s i }, omega (arith, ltb-true 0 b.rows t.1, r))

  whole_queue : (l : ℕ) (q : List Batch) → length q ≤ 1 → all (whole_batch m l) q ≡ true → (q ≡ []) ⊎ ((q ≡ whole m.job l ∷ []) × (1 ≤ (node_of m.job l).rows))
  unfolding all
  whole_queue l [] h e = inl refl
  whole_queue l (b ∷ []) h e = let w = whole_is l b (and_left _ _ e) in inr (rw w.0, w.1)
  whole_queue l (b ∷ d ∷ q) h e = absurd (omega arith)

  queue_range : (x : ℕ) → QueueRange m x
  queue_range x = by_bool (port_of m.ports x).there
      (λ t. record {
        bounded = λ h. let b = bounded_parts x t h in (b.1, b.2);
        share = λ l s h e.
            let b = shared_parts x t (omega arith) in
            let q : (x - slot_places) / 16 ≡ l = omega arith in
            whole_queue l (queue_at m x) b.2 (rw q at b.3);
      })
      (λ t. let e : queue_of m.queues x ≡ [] = queue_none x t in record { bounded = λ h. rw e (omega arith, tt); share = λ l s h q. inl e })

  vacant_port : (x : ℕ) → There m.ports x ⊎ (reader_of m.ports x ≡ nobody)
  unfolding port_ok
  vacant_port x = by_bool (port_of m.ports x).there (λ t. inl t)
      (λ t. inr (by_bool (ltb x port_places)
      (λ h. nobody_is (reader_of m.ports x) (rw (t, port_ok) at (c.ports x (ltb-true x port_places h))))
      (λ h. ap (λ (v : Port). v.reader) (get_past no_port m.ports x (omega (arith, c.sizes.ports, ltb-false x port_places h))))))

-- a state that passes check 12 is in range, if its numbers are
pub check_ranged : (m : Machine) → Sizes m → ((n : ℕ) → (node_of m.job n).rows ≤ max_rows) → check m ≡ true → Ranged m
check_ranged m z n h =
    let c : Checks m = checks m z n h in
    record { job = c.job; sizes = z; lists = list_range m c; pipes = pipe_range m c; ports = port_range m c; queues = queue_range m c; vacant = vacant_port m c }
