-- An accepted delivery leaves a state that passes check 12 again, so that the step behind it makes no second check.
use Rattle.std.specs.Prelude.{◌≡◌, Bool, false, ◌&&◌, ◌||◌, ℕ, suc, ◌+◌, ◌<◌, ◌≤◌, length, eqb, leb}
use Rattle.std.proofs.Math.Path.{refl}
use Rattle.std.proofs.Common.{sym, ap, ◌∙◌}
use Rattle.std.proofs.Math.Bool.{true, and-false}
use mathlib.Core.List.{List, [], ◌∷◌}
use Rattle.std.proofs.Math.Option.{Option, none, some}
use Rattle.std.proofs.Math.Dec.{ltb}
use borrow.Author.Tests.{ltb-true, ltb-false, le-leb, leb-true, leb-false}
use Rattle.rules.specs.Table.{get, put, any, all, each, up_from}
use Rattle.rules.specs.Job.{Kind, max_slots}
use Rattle.rules.specs.Plan.{node_of, leaves_of}
use Rattle.rules.specs.Port.{Batch}
use Rattle.rules.specs.Operators.{Source, segment, concat, pack}
use Rattle.rules.specs.Machine.{Machine, Pipeline, Port, Reader, nobody, slot, pipe, Read, no_pipe, no_source, no_read, node_at_place, leaf_of_port}
use Rattle.rules.specs.Machine.{slot_places, places, live, pipe_at, source_at, stage_at, inlets_at, set_source, with_pipes, with_sources, with_reads, with_ready}
use Rattle.rules.specs.Wake.{enqueue, make_runnable}
use Rattle.rules.specs.Scan.{says, ok, brought, bring, delivered, faulted, delivering}
use Rattle.rules.specs.Check.{check, counts_ok, lists_ok, is_first, slot_ok, is_source, owner_ok, read_ok, source_ok, state_ok, inlets_live, pipe_ok}
use Rattle.rules.specs.Check.{reader_ok, has_source, port_ok, queue_ok}
use Rattle.laws.specs.Table.{same, other, by_bool, by_eq, by_option, clash, and_both, or_left, or_right, get_past, put_length}
use Rattle.laws.specs.Stored.{both}
use Rattle.laws.specs.Rows.{All-get}
use Rattle.order.specs.Each.{both3, true_all, all_true, each_true, true_each}
use Rattle.order.specs.CheckRanged.{Passes, passes}
use Rattle.order.specs.Ranging.{source_near, stage_near}
use Rattle.order.specs.RangingCalls.{All-put, brought_ok}
use Rattle.order.specs.Runnable.{awake, stacked, runnable_is}

-- Parts of check 12

-- what may stand on the ready stack
abbrev ready_ok : Machine → ℕ → Bool
ready_ok m p = ltb p places && live m p

ready_few : (m : Machine) → counts_ok m ≡ true → leb (length m.ready) places ≡ true
unfolding counts_ok
ready_few m c = by_bool (leb (length m.ready) places) (λ e. e) (λ e. clash (cc (simp (e, and-false) at c)))

ready_all : (m : Machine) → lists_ok m ≡ true → all (ready_ok m) m.ready ≡ true
unfolding lists_ok
ready_all m c = by_bool (all (ready_ok m) m.ready) (λ e. e) (λ e. clash (cc (simp (e, and-false) at c)))

reads_all : (m : Machine) → lists_ok m ≡ true → all (read_ok m) m.reads ≡ true
unfolding lists_ok
reads_all m c = by_bool (all (read_ok m) m.reads) (λ e. e) (λ e. clash (cc (simp (e, and-false) at c)))

-- Other pipelines, sources, reads and ready stack: if the same pipelines live, and sources differ by their bytes alone, each test says what it said

brought_kind : (s : Source) → is_source (brought s) ≡ is_source s
brought_kind (segment a b e) = refl
brought_kind (concat i) = refl
brought_kind pack = refl

module _ (P : List Pipeline) (S : List Source) (R : List Read) (Y : List ℕ) (m : Machine)
    (lives : (q : ℕ) → (get no_pipe P q).live ≡ live m q) (feeds : (q : ℕ) → brought (get no_source S q) ≡ brought (source_at m q)) where
  abbrev resumed : Machine
  resumed = with_ready Y (with_pipes P (with_sources S (with_reads R m)))

  source_alike : (p : ℕ) (k : Kind) → source_ok resumed p k (get no_source S p) ≡ source_ok m p k (source_at m p)
  source_alike p k =
      source_near m resumed p (search) k (get no_source S p) ∙ sym (brought_ok m p k (get no_source S p))
      ∙ ap (source_ok m p k) (feeds p) ∙ brought_ok m p k (source_at m p)

  inlets_alike : (p i : ℕ) (xs : List ℕ) → inlets_live resumed p i xs ≡ inlets_live m p i xs
  unfolding inlets_live
  inlets_alike p i [] = refl
  inlets_alike p i (x ∷ xs) = rw (inlets_alike p (suc i) xs)

  pipe_alike : (p : ℕ) (x : Pipeline) → pipe_ok resumed p x ≡ pipe_ok m p x
  unfolding pipe_ok
  pipe_alike p x = by_bool x.live
      (λ l. let k : Kind = (node_of m.job (node_at_place p)).kind in
      rw (l, pipe_ok, source_alike p k, stage_near m resumed p (search) (stage_at m p), inlets_alike p 0 (inlets_at m p)))
      (λ l. rw (l, pipe_ok))

  has_alike : (l : ℕ) → has_source resumed l ≡ has_source m l
  unfolding has_source
  has_alike l = λ i. any (λ g. lives (slot_places + g) i) (leaves_of m.job l)

  reader_alike : (x : ℕ) (r : Reader) → reader_ok resumed x r ≡ reader_ok m x r
  reader_alike x nobody = refl
  reader_alike x slot = refl
  reader_alike x (pipe p i) = rw (lives p)

  port_alike : (x : ℕ) (y : Port) → port_ok resumed x y ≡ port_ok m x y
  unfolding port_ok
  port_alike x y = by_bool y.there (λ t. rw (t, port_ok, reader_alike x y.reader, lives x, has_alike (leaf_of_port x))) (λ t. rw (t, port_ok))

  queue_alike : (x : ℕ) (q : List Batch) → queue_ok resumed x q ≡ queue_ok m x q
  unfolding queue_ok
  queue_alike x [] = refl
  queue_alike x (b ∷ q) = refl

  owner_alike : (o : Option ℕ) → owner_ok resumed o ≡ owner_ok m o
  owner_alike none = refl
  owner_alike (some p) = rw (lives p, sym (brought_kind (get no_source S p)) ∙ ap is_source (feeds p) ∙ brought_kind (source_at m p))

  slot_alike : (k : ℕ) → slot_ok resumed k ≡ slot_ok m k
  slot_alike k = by_option (get none m.active k) (λ e. rw e) (λ s e. rw e)

  counts_kept : length R ≡ length m.reads → length Y ≤ places → counts_ok m ≡ true → counts_ok resumed ≡ true
  unfolding counts_ok
  counts_kept e h c = rw (e, le-leb (length Y) places h) (rw (ready_few m c) at c)

  lists_kept : length R ≡ length m.reads → all (ready_ok m) Y ≡ true → all (read_ok m) R ≡ true → lists_ok m ≡ true → lists_ok resumed ≡ true
  unfolding lists_ok
  lists_kept e y r c =
      let y' : all (ready_ok resumed) Y ≡ true = (λ i. all (λ p. ltb p places && lives p i) Y) ∙ y in
      let r' : all (read_ok resumed) R ≡ true = (λ i. all (λ (x : Read). is_first m x.leaf && owner_alike x.owner i) R) ∙ r in
      let s : all (slot_ok resumed) (up_from 0 max_slots) ≡ all (slot_ok m) (up_from 0 max_slots) = λ i. all (λ k. slot_alike k i) (up_from 0 max_slots) in
      rw (y', r', e, s) (rw (ready_all m c, reads_all m c) at c)

  check_kept : length R ≡ length m.reads → length Y ≤ places → all (ready_ok m) Y ≡ true → all (read_ok m) R ≡ true → each (pipe_ok m) 0 P ≡ true
      → Passes m → check resumed ≡ true
  unfolding check
  check_kept e h y r p c =
      and_both _ _ (and_both _ _ (and_both _ _ (and_both _ _ (and_both _ _ c.job (counts_kept e h c.counts)) (lists_kept e y r c.lists))
      ((λ i. each (λ q x. pipe_alike q x i) 0 P) ∙ p)) ((λ i. each (λ x v. port_alike x v i) 0 m.ports) ∙ c.ports))
      ((λ i. each (λ x q. queue_alike x q i) 0 m.queues) ∙ c.queues)

-- Delivery

-- a pipeline in use is in the table
live_in : (m : Machine) (p : ℕ) → live m p ≡ true → p < length m.pipes
live_in m p l = by_bool (ltb p (length m.pipes)) (λ e. ltb-true p (length m.pipes) e)
    (λ e. clash (cc (l, get_past no_pipe m.pipes p (ltb-false p (length m.pipes) e))))

-- and made runnable passes as it did
awake_ok : (m : Machine) (p : ℕ) (x : Pipeline) → pipe_ok m p x ≡ true → pipe_ok m p (awake x) ≡ true
unfolding pipe_ok
awake_ok m p x h = by_bool x.live
    (λ l. let a = rw (l, pipe_ok) at h in
    by_bool (state_ok p (length (inlets_at m p)) x.state) (λ e. rw (l, pipe_ok) (rw e at a)) (λ e. clash (cc (simp (e, and-false) at a))))
    (λ l. rw (l, pipe_ok))

awake_each : (m : Machine) (p : ℕ) → live m p ≡ true → each (pipe_ok m) 0 m.pipes ≡ true
    → each (pipe_ok m) 0 (put no_pipe m.pipes p (awake (pipe_at m p))) ≡ true
awake_each m p l c =
    let v : Pipeline = awake (pipe_at m p) in
    let a : (k : ℕ) → k < length m.pipes → pipe_ok m k (pipe_at m k) ≡ true = true_each (pipe_ok m) no_pipe m.pipes c in
    each_true (pipe_ok m) no_pipe (put no_pipe m.pipes p v) (λ k b. by_eq k p
    (λ q. rw (q, same) (awake_ok m p (pipe_at m p) (a p (live_in m p l))))
    (λ n. rw other (a k (rw (put_length no_pipe m.pipes p v (live_in m p l)) at b))))

awake_live : (P : List Pipeline) (p q : ℕ) → (get no_pipe (put no_pipe P p (awake (get no_pipe P p))) q).live ≡ (get no_pipe P q).live
awake_live P p q = by_eq q p (λ e. rw (e, same)) (λ n. rw other)

brought_twice : (s : Source) → brought (brought s) ≡ brought s
brought_twice (segment a b e) = refl
brought_twice (concat i) = refl
brought_twice pack = refl

brought_alike : (S : List Source) (p q : ℕ) → brought (get no_source (put no_source S p (brought (get no_source S p))) q) ≡ brought (get no_source S q)
brought_alike S p q = by_eq q p (λ e. rw (e, same) (brought_twice (get no_source S p))) (λ n. rw other)

-- the ready stack has place, or the fault is set
has_place : (p : ℕ) (m : Machine) → (make_runnable p m).fault ≡ false → (pipe_at m p).queued ≡ false → length m.ready < places
unfolding make_runnable
has_place p m f q = by_bool (leb places (length m.ready))
    (λ e. clash (cc (or_right m.fault true (rw (q, make_runnable, e, enqueue) at f))))
    (λ e. leb-false places (length m.ready) e)

-- the bytes reach the pipeline that waits for them, if one does
bring_checked : (m : Machine) (R : List Read) (o : Option ℕ) → length R ≡ length m.reads → all (read_ok m) R ≡ true → owner_ok m o ≡ true
    → (bring o (with_reads R m)).fault ≡ false → Passes m → check (bring o (with_reads R m)) ≡ true
unfolding bring all
bring_checked m R none e a h f c =
    check_kept m.pipes m.sources R m.ready m (λ q. refl) (λ q. refl) e
    (leb-true _ _ (ready_few m c.counts)) (ready_all m c.lists) a c.pipes c
bring_checked m R (some p) e a h f c =
    let w = both3 (ltb p places) (live m p) (is_source (source_at m p)) h in
    let u : Machine = set_source p (brought (source_at m p)) (with_reads R m) in
    let l = ready_all m c.lists in
    rw (runnable_is p u (has_place p u f))
    (check_kept (put no_pipe m.pipes p (awake (pipe_at m p))) u.sources R (stacked p (pipe_at m p).queued m.ready) m
    (awake_live m.pipes p) (brought_alike m.sources p) e
    (by_bool (pipe_at m p).queued (λ q. rw q (leb-true _ _ (ready_few m c.counts))) (λ q. rw q (has_place p u f q)))
    (by_bool (pipe_at m p).queued (λ q. rw q l) (λ q. rw q (and_both _ _ (and_both _ _ w.0 w.1) l)))
    a (awake_each m p w.1 c.pipes) c)

delivered_checked : (m : Machine) (r : ℕ) → r < length m.reads → (delivered r (get no_read m.reads r) m).fault ≡ false → Passes m
    → check (delivered r (get no_read m.reads r) m) ≡ true
delivered_checked m r h f c =
    let x : Read = get no_read m.reads r in
    let v : Read = record { leaf = x.leaf; owner = none; delivered = true } in
    let l = true_all (read_ok m) m.reads (reads_all m c.lists) in
    let b = both (is_first m x.leaf) (owner_ok m x.owner) (All-get (λ (y : Read). read_ok m y ≡ true) no_read m.reads r l h) in
    bring_checked m (put no_read m.reads r v) x.owner (put_length no_read m.reads r v h)
    (all_true (read_ok m) (put no_read m.reads r v)
    (All-put (λ (y : Read). read_ok m y ≡ true) no_read m.reads r v h (and_both _ _ b.0 refl) l)) b.1 f c

-- what says ok has set no fault
no_fault : (w m : Machine) → faulted w ≡ says ok m → (w.fault ≡ false) × (w ≡ m)
no_fault w m e = by_bool w.fault (λ f. clash (cc (rw (f, faulted) at e))) (λ f. (f, cc (rw (f, faulted) at e)))

pub delivering_checked : (m m' : Machine) (r n : ℕ) → check m ≡ true → delivering r n m ≡ says ok m' → check m' ≡ true
unfolding delivering
delivering_checked m m' r n c e =
    let x : Read = get no_read m.reads r in
    by_bool (leb (length m.reads) r || x.delivered) (λ a. clash (cc (rw a at e)))
    (λ a. by_bool (eqb (node_of m.job x.leaf).rows n)
    (λ b. let w = no_fault (delivered r x m) m' (rw (a, b) at e) in
    ap check (sym w.1) ∙ delivered_checked m r (leb-false (length m.reads) r (or_left (leb (length m.reads) r) x.delivered a)) w.0 (passes m c))
    (λ b. clash (cc (rw (a, b) at e))))
