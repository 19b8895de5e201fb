-- What happens between runs keeps the ranges: output and read turns, a delivery, a split that is finished.
use Rattle.std.specs.Prelude.{◌≡◌, refl, Bool, true, false, List, [], ◌∷◌, ℕ, zero, suc, ◌<◌, ◌≤◌, length}
use Rattle.std.proofs.Common.{◌∙◌, arith}
use Rattle.std.proofs.Math.Option.{Option, none, some}
use Rattle.rules.specs.Table.{get, put}
use Rattle.rules.specs.Job.{Kind}
use Rattle.rules.specs.Plan.{node_of, root_of}
use Rattle.rules.specs.Operators.{Source, segment, concat, pack}
use Rattle.rules.specs.Machine.{Machine, Read, no_read, Output, node_at_place, places, no_source, source_at, set_source, with_reads, with_news, with_dirty, with_next, with_unbuilt, with_outputs}
use Rattle.rules.specs.Scan.{brought, bring, delivered}
use Rattle.rules.specs.Check.{source_ok, batch_ok}
use Rattle.laws.specs.Table.{same, other, by_eq, clash, put_length}
use Rattle.laws.specs.Rows.{All, All-get}
use Rattle.order.specs.Inv.{source_of}
use Rattle.order.specs.Ranged.{IsFirst, ListRange, Ranged}
use Rattle.order.specs.Ranging.{PipeBody, Ranging, body_near, port_alike, queue_alike, sizes_alike, lists_alike, of_ranged, to_ranged}
use Rattle.order.specs.RangingMoves.{lists_set}
use Rattle.order.specs.RangingWake.{runnable_ranging}
use Rattle.order.specs.Lowers.{none_to}

-- every entry of a list with one written
pub All-put : {A : Type 0} (P : A → Type 0) (d : A) (xs : List A) (i : ℕ) (v : A) → i < length xs → P v → All P xs → All P (put d xs i v)
All-put P d [] i v h p a = absurd (omega arith)
All-put P d (x ∷ xs) zero v h p a = (p, a.1)
All-put P d (x ∷ xs) (suc i) v h p a = (a.0, All-put P d xs i v (omega arith) p a.1)

-- an output held, in range
abbrev pub OutputRange : Machine → Output → Type 0
OutputRange m o = (o.split < length m.job.splits) × (batch_ok m.job (node_of m.job (root_of m.job)).width o.batch ≡ true)

module _ (lax : Type 0) (to : ℕ → ℕ → ℕ → Type 0) where
  -- other reads, news, dirty slots, next split, segments to be built and outputs
  pub turn_set : (m : Machine) (R : List Read) (N D : List ℕ) (n : ℕ) (U : List Bool) (S : List Output)
      → length R ≤ 24 → All (λ (x : Read). IsFirst m.job x.leaf) R → All (λ (x : Read). (p : ℕ) → x.owner ≡ some p → p < places) R
      → length N ≤ 24 → All (λ x. x < length R) N → length D ≤ 3 → All (λ k. k < m.job.slots) D → n ≤ length m.job.splits
      → length U ≡ length m.unbuilt → ((g : ℕ) → get false U g ≡ true → IsFirst m.job g) → length S ≤ 8 → All (OutputRange m) S
      → Ranging lax to m → Ranging lax to (with_outputs S (with_unbuilt U (with_next n (with_dirty D (with_news N (with_reads R m))))))
  turn_set m R N D n U S a b c d e f g h i j k l r = let t : ListRange m = r.lists in lists_set lax to m r _ _ _ _ _ _ _ _ _ _ _ (omega arith) refl i (record {
    is_next = h;
    made = t.made;
    freed_size = t.freed_size;
    ready_size = t.ready_size;
    reads_size = a;
    news_size = d;
    dirty_size = f;
    outputs_size = k;
    active = t.active;
    freed = t.freed;
    ready = t.ready;
    reads = b;
    owners = c;
    news = e;
    dirty = g;
    outputs = l;
    unbuilt = j;
  })

  -- other outputs
  pub outputs_set : (m : Machine) (S : List Output) → length S ≤ 8 → All (OutputRange m) S → Ranging lax to m → Ranging lax to (with_outputs S m)
  outputs_set m S a b r = let t : ListRange m = r.lists in
      turn_set m m.reads m.news m.dirty m.next m.unbuilt S t.reads_size t.reads t.owners t.news_size t.news t.dirty_size t.dirty t.is_next refl t.unbuilt a b r

  -- other news
  pub news_set : (m : Machine) (N : List ℕ) → length N ≤ 24 → All (λ x. x < length m.reads) N → Ranging lax to m → Ranging lax to (with_news N m)
  news_set m N a b r = let t : ListRange m = r.lists in
      turn_set m m.reads N m.dirty m.next m.unbuilt m.outputs t.reads_size t.reads t.owners a b t.dirty_size t.dirty t.is_next refl t.unbuilt t.outputs_size t.outputs r

  -- other dirty slots
  pub dirty_set : (m : Machine) (D : List ℕ) → length D ≤ 3 → All (λ k. k < m.job.slots) D → Ranging lax to m → Ranging lax to (with_dirty D m)
  dirty_set m D a b r = let t : ListRange m = r.lists in
      turn_set m m.reads m.news D m.next m.unbuilt m.outputs t.reads_size t.reads t.owners t.news_size t.news a b t.is_next refl t.unbuilt t.outputs_size t.outputs r

  -- another next split
  pub next_set : (m : Machine) (n : ℕ) → n ≤ length m.job.splits → Ranging lax to m → Ranging lax to (with_next n m)
  next_set m n a r = let t : ListRange m = r.lists in
      turn_set m m.reads m.news m.dirty n m.unbuilt m.outputs t.reads_size t.reads t.owners t.news_size t.news t.dirty_size t.dirty a refl t.unbuilt t.outputs_size t.outputs r

  -- a segment is built
  pub unbuilt_set : (m : Machine) (U : List Bool) → length U ≡ length m.unbuilt → ((g : ℕ) → get false U g ≡ true → IsFirst m.job g) → Ranging lax to m → Ranging lax to (with_unbuilt U m)
  unbuilt_set m U a b r = let t : ListRange m = r.lists in
      turn_set m m.reads m.news m.dirty m.next U m.outputs t.reads_size t.reads t.owners t.news_size t.news t.dirty_size t.dirty t.is_next a b t.outputs_size t.outputs r

  -- other reads, as many
  pub reads_set : (m : Machine) (R : List Read) → length R ≡ length m.reads → All (λ (x : Read). IsFirst m.job x.leaf) R → All (λ (x : Read). (p : ℕ) → x.owner ≡ some p → p < places) R
      → Ranging lax to m → Ranging lax to (with_reads R m)
  reads_set m R e b c r = let t : ListRange m = r.lists in
      turn_set m R m.news m.dirty m.next m.unbuilt m.outputs (rw e t.reads_size) b c t.news_size (rw e t.news) t.dirty_size t.dirty t.is_next refl t.unbuilt t.outputs_size t.outputs r

-- Turns

pub output_turn : (m : Machine) (o : Output) (os : List Output) → m.outputs ≡ o ∷ os → Ranged m → Ranged (with_outputs os m)
output_turn m o os e r =
    let a : All (OutputRange m) (o ∷ os) = rw e at r.lists.outputs in
    let s : suc (length os) ≤ 8 = rw e at r.lists.outputs_size in
    to_ranged _ (outputs_set ⊥ none_to m os (omega arith) a.1 (of_ranged m r))

pub read_turn : (m : Machine) (n : ℕ) (ns : List ℕ) → m.news ≡ n ∷ ns → Ranged m → Ranged (with_news ns m)
read_turn m n ns e r =
    let a : All (λ x. x < length m.reads) (n ∷ ns) = rw e at r.lists.news in
    let s : suc (length ns) ≤ 24 = rw e at r.lists.news_size in
    to_ranged _ (news_set ⊥ none_to m ns (omega arith) a.1 (of_ranged m r))

-- Delivery

pub brought_ok : (m : Machine) (p : ℕ) (k : Kind) (s : Source) → source_ok m p k (brought s) ≡ source_ok m p k s
brought_ok m p k (segment a b e) = refl
brought_ok m p k (concat i) = refl
brought_ok m p k pack = refl

-- bytes reach a source
brought_ranging : (m : Machine) (p : ℕ) → p < places → Ranging ⊥ none_to m → Ranging ⊥ none_to (set_source p (brought (source_at m p)) m)
brought_ranging m p h r = record {
  job = r.job;
  sizes = sizes_alike m _ r.sizes refl (put_length no_source m.sources p (brought (source_at m p)) (rw r.sizes.sources h)) refl refl refl refl refl refl refl refl refl refl refl;
  lists = lists_alike m _ _ _ _ _ _ _ _ _ _ _ _ r.lists;
  pipes = λ q l. body_near m (set_source p (brought (source_at m p)) m) q (search) (source q (r.pipes q l)) refl (r.pipes q l).state refl refl (r.pipes q l);
  numbers = r.numbers;
  ports = λ x t. port_alike m _ x refl (λ h. refl) (r.ports x t);
  readers = r.readers;
  vacant = r.vacant;
  slots = r.slots;
  queues = λ x. queue_alike m _ x refl refl (r.queues x);
}
  where
    source : (q : ℕ) → PipeBody m q → source_ok m q (node_of m.job (node_at_place q)).kind (source_of (put no_source m.sources p (brought (source_at m p))) q) ≡ true
    source q c = by_eq q p
        (λ e. rw (e, same no_source m.sources p (brought (source_at m p)))
        (brought_ok m p (node_of m.job (node_at_place p)).kind (source_at m p) ∙ (rw e at c.source)))
        (λ n. rw (other no_source m.sources p q (brought (source_at m p)) n) c.source)

bring_ranging : (m : Machine) (o : Option ℕ) → ((p : ℕ) → o ≡ some p → p < places) → Ranging ⊥ none_to m → Ranging ⊥ none_to (bring o m)
unfolding bring
bring_ranging m none h r = r
bring_ranging m (some p) h r = runnable_ranging ⊥ none_to (set_source p (brought (source_at m p)) m) p (h p refl) (brought_ranging m p (h p refl) r)

pub delivered_ranged : (m : Machine) (i : ℕ) → i < length m.reads → Ranged m → Ranged (delivered i (get no_read m.reads i) m)
delivered_ranged m i h r =
    let x : Read = get no_read m.reads i in
    let v : Read = record { leaf = x.leaf; owner = none; delivered = true } in
    to_ranged _ (bring_ranging (with_reads (put no_read m.reads i v) m) x.owner (All-get (λ (y : Read). (p : ℕ) → y.owner ≡ some p → p < places) no_read m.reads i r.lists.owners h)
    (reads_set ⊥ none_to m (put no_read m.reads i v) (put_length no_read m.reads i v h)
    (All-put (λ (y : Read). IsFirst m.job y.leaf) no_read m.reads i v h (All-get (λ (y : Read). IsFirst m.job y.leaf) no_read m.reads i r.lists.reads h) r.lists.reads)
    (All-put (λ (y : Read). (p : ℕ) → y.owner ≡ some p → p < places) no_read m.reads i v h (λ p e. clash (cc)) r.lists.owners) (of_ranged m r)))
