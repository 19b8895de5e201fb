-- A pipeline that retires keeps the ranges: nothing names it any more.
use Rattle.std.specs.Prelude.{◌≡◌, refl, ◌≢◌, ◌⊎◌, Bool, true, false, ◌&&◌, ◌||◌, ℕ, ◌<◌, length, eqb, leb, ltb, if◌then◌else◌}
use Rattle.std.proofs.Common.{sym, ap, ◌∙◌, subst, inl, inr, arith, eqb-true, eq-eqb, ne_eqb, ltb-true, leb-false}
use mathlib.Core.List.{List, [], ◌∷◌, map}
use Rattle.std.proofs.Math.Option.{some}
use Rattle.std.proofs.lemmas.List.{length-map}
use Rattle.rules.specs.Table.{put, has, is_empty, is_some}
use Rattle.rules.specs.Job.{Kind, is_segment, is_pack}
use Rattle.rules.specs.Plan.{node_of, names}
use Rattle.rules.specs.Port.{Batch}
use Rattle.rules.specs.Operators.{Source, segment, concat, pack}
use Rattle.rules.specs.Machine.{Machine, Pipeline, Port, pipe, Read, node_at_place, slot_at_place, slot_places, places, port_places, no_pipe, no_port, pipe_at, port_at, inlets_at, pieces_at, is_share_port, set_pipe, set_port, set_queue, with_ports, with_queues, with_reads, with_freed, fault_if, leaf_of_port}
use Rattle.rules.specs.Ports.{readerless, drop_inlet, drop_each}
use Rattle.rules.specs.Pipelines.{disowned, gone, retire}
use Rattle.rules.specs.Check.{source_ok, fed_below, fed_shared, is_concat, pack_ok}
use Rattle.laws.specs.Table.{same, other, by_bool, by_eq, clash, put_length}
use Rattle.laws.specs.Rows.{All}
use Rattle.laws.specs.Draft.{empty_nil}
use Rattle.laws.specs.Stored.{both}
use Rattle.laws.specs.KidPlaces.{All-map}
use Rattle.order.specs.Inv.{Live, There, reader_of, source_of}
use Rattle.order.specs.Each.{both3, both4, All-image, or_rest}
use Rattle.order.specs.Ranged.{IsFirst}
use Rattle.order.specs.Ranging.{PipeBody, ReadBy, Ranging, body_alike, port_alike, queue_alike, sizes_alike, lists_alike}
use Rattle.order.specs.RangingMoves.{at_same, port_set, queue_clear}
use Rattle.order.specs.RangingWake.{free_ranging, freed_set, fault_set}
use Rattle.order.specs.RangingCalls.{reads_set}
use Rattle.order.specs.Lists.{at_has}
use Rattle.order.specs.Lowers.{none_to}

-- Inlets that are dropped

-- ports are dropped: none that is left is new, and those of a list name nobody
pub record Drops (xs : List ℕ) (m m' : Machine) : Type 0 where
  pub ports : List Port
  pub queues : List (List Batch)
  pub is : m' ≡ with_queues queues (with_ports ports m)
  pub there : (y : ℕ) → There m'.ports y → There m.ports y
  pub reader : (y q i : ℕ) → There m'.ports y → reader_of m'.ports y ≡ pipe q i → reader_of m.ports y ≡ pipe q i
  pub unread : (y q i : ℕ) → has y xs ≡ true → There m'.ports y → reader_of m'.ports y ≢ pipe q i

-- one port: it goes, or loses its reader
drop_port : (x : ℕ) (v : Port) (m : Machine) → (v.there ≡ true → There m.ports x) → ((q i : ℕ) → v.there ≡ true → v.reader ≢ pipe q i) → Drops (x ∷ []) m (set_queue x [] (set_port x v m))
unfolding has
drop_port x v m t n = record {
  ports = put no_port m.ports x v;
  queues = put [] m.queues x [];
  is = refl;
  there = λ y h. by_eq y x (λ e. rw e (t (rw (e, same) at h))) (λ d. rw other at h);
  reader = λ y q i h e. by_eq y x (λ d. absurd (n q i (rw (d, same) at h) (sym (at_it y d) ∙ e))) (λ d. sym (ap (λ (w : Port). w.reader) (other no_port m.ports x y v d)) ∙ e);
  unread = λ y q i a h e. let d : y ≡ x = eqb-true y x (only y a) in n q i (rw (d, same) at h) (sym (at_it y d) ∙ e);
}
  where
    at_it : (y : ℕ) → y ≡ x → reader_of (put no_port m.ports x v) y ≡ v.reader
    at_it y d = ap (λ (w : Port). w.reader) (at_same no_port m.ports x y v d)

    only : (y : ℕ) → eqb y x || false ≡ true → eqb y x ≡ true
    only y a = by_bool (eqb y x) (λ e. e) (λ e. clash (cc))

drop_one : (x : ℕ) (m : Machine) → Drops (x ∷ []) m (drop_inlet x m)
drop_one x m = by_bool ((port_at m x).closed || is_share_port x)
    (λ e. rw (e, drop_inlet) (drop_port x no_port m (λ t. clash (cc)) (λ q i t. clash (cc))))
    (λ e. rw (e, drop_inlet) (drop_port x (readerless (port_at m x)) m (λ t. t) (λ q i t e. clash (cc))))

-- all of a list
drop_more : (x : ℕ) (xs : List ℕ) (m c e : Machine) → Drops (x ∷ []) m c → Drops xs c e → Drops (x ∷ xs) m e
unfolding has
drop_more x xs m c e a b = record {
  ports = b.ports;
  queues = b.queues;
  is = b.is ∙ ap (λ (t : Machine). with_queues b.queues (with_ports b.ports t)) a.is;
  there = λ y h. a.there y (b.there y h);
  reader = λ y q i h r. a.reader y q i (b.there y h) (b.reader y q i h r);
  unread = λ y q i k h r. by_eq y x (λ d. a.unread y q i (rw (d, eq-eqb x x refl)) (b.there y h) (b.reader y q i h r)) (λ d. b.unread y q i (or_rest (eqb y x) (has y xs) k (ne_eqb y x d)) h r);
}

pub drop_all : (xs : List ℕ) (m : Machine) → Drops xs m (drop_each xs m)
unfolding drop_each has
drop_all [] m = record { ports = m.ports; queues = m.queues; is = refl; there = λ y h. h; reader = λ y q i h e. e; unread = λ y q i a. clash (cc) }
drop_all (x ∷ xs) m = drop_more x xs m (drop_inlet x m) (drop_each xs (drop_inlet x m)) (drop_one x m) (drop_all xs (drop_inlet x m))

-- pipelines left when one goes
went : (P : List Pipeline) (p q : ℕ) → Live (put no_pipe P p no_pipe) q → Live P q × (q ≢ p)
went P p q l = by_eq q p (λ e. clash (cc (l, at_same no_pipe P p q no_pipe e))) (λ d. (rw other at l, d))

module _ (lax : Type 0) (to : ℕ → ℕ → ℕ → Type 0) where
  -- a port that loses its reader
  lose_ranging : (m : Machine) (x : ℕ) → x < port_places → Ranging lax to m → Ranging lax to (set_queue x [] (set_port x (readerless (port_at m x)) m))
  lose_ranging m x h r =
      queue_clear lax to (set_port x (readerless (port_at m x)) m)
      (port_set lax to m r to x (readerless (port_at m x)) h (λ y p i a. a) (λ t. r.ports x t) (λ p i t e. clash (cc)) (λ t e. clash (cc)) (inr refl)) x h

  drop_ranging : (m : Machine) (x : ℕ) → x < port_places → Ranging lax to m → Ranging lax to (drop_inlet x m)
  drop_ranging m x h r = by_bool ((port_at m x).closed || is_share_port x) (λ e. rw (e, drop_inlet) (free_ranging lax to m x h r)) (λ e. rw (e, drop_inlet) (lose_ranging m x h r))

  drops_ranging : (xs : List ℕ) (m : Machine) → All (λ x. x < port_places) xs → Ranging lax to m → Ranging lax to (drop_each xs m)
  unfolding drop_each
  drops_ranging [] m h r = r
  drops_ranging (x ∷ xs) m h r = drops_ranging xs (drop_inlet x m) h.1 (drop_ranging m x h.0 r)

  -- a pipeline that no port names goes
  gone_ranging : (m : Machine) (p : ℕ) → p < places → ((x i : ℕ) → There m.ports x → reader_of m.ports x ≢ pipe p i) → Ranging lax to m → Ranging lax to (set_pipe p (gone (pipe_at m p)) m)
  gone_ranging m p h n r = record {
    job = r.job;
    sizes = sizes_alike m _ r.sizes (put_length no_pipe m.pipes p no_pipe (rw r.sizes.pipes h)) refl refl refl refl refl refl refl refl refl refl refl refl;
    lists = lists_alike m _ _ _ _ _ _ _ _ _ _ _ _ r.lists;
    pipes = λ q l. let c : Live m.pipes q × (q ≢ p) = went m.pipes p q l in
        body_alike m (set_pipe p (gone (pipe_at m p)) m) q (search) (rw (ap (λ (w : Pipeline). w.state) (other no_pipe m.pipes p q no_pipe c.1)) (r.pipes q c.0).state) (r.pipes q c.0);
    numbers = λ q l. let c : Live m.pipes q × (q ≢ p) = went m.pipes p q l in rw (other no_pipe m.pipes p q no_pipe c.1) (r.numbers q c.0);
    ports = λ x t. port_alike m _ x refl (λ h. refl) (r.ports x t);
    readers = λ x q i t d. reads x q i t d (r.readers x q i t d);
    vacant = r.vacant;
    slots = r.slots;
    queues = λ x. queue_alike m _ x refl refl (r.queues x);
  }
    where
      reads : (x q i : ℕ) → There m.ports x → reader_of m.ports x ≡ pipe q i → ReadBy m x q i ⊎ to x q i → ReadBy (set_pipe p no_pipe m) x q i ⊎ to x q i
      reads x q i t d (inl a) = inl (a.0, by_eq q p (λ e. absurd (n x i t (d ∙ rw e))) (λ k. rw other a.1), a.2)
      reads x q i t d (inr a) = inr a

-- The inlets of a pipeline in range are ports

fed_below_lem : (m : Machine) (p : ℕ) (xs : List ℕ) → p < slot_places → fed_below m p xs ≡ true → All (λ x. x < port_places) xs
unfolding fed_below
fed_below_lem m p [] h e = tt
fed_below_lem m p (x ∷ xs) h e =
    let b = both4 _ _ _ _ e in
    let s : slot_at_place x ≡ slot_at_place p = eqb-true _ _ b.0 in
    (omega arith, fed_below_lem m p xs h b.3)

fed_shared_lem : (m : Machine) (p : ℕ) (xs : List ℕ) → fed_shared m p xs ≡ true → All (λ x. x < port_places) xs
unfolding fed_shared
fed_shared_lem m p [] e = clash (cc)
fed_shared_lem m p (x ∷ []) e = let b = both4 (is_share_port x) (ltb x port_places) (ltb p slot_places) (names m.job (node_at_place p) (leaf_of_port x)) e in
    (ltb-true x port_places b.1, tt)
fed_shared_lem m p (x ∷ y ∷ xs) e = clash (cc)

inlets_in : (m : Machine) (p : ℕ) (k : Kind) (s : Source) → source_ok m p k s ≡ true → All (λ x. x < port_places) (inlets_at m p)
inlets_in m p k (segment a b e) h = let c = both3 (is_segment k) (is_empty (inlets_at m p)) (leb e (length (pieces_at m p)))
    h in rw (empty_nil (inlets_at m p) c.1) tt
inlets_in m p k (concat i) h =
    let c = both3 (leb i (length (inlets_at m p))) (ltb p slot_places) (if is_concat k then fed_below m p (inlets_at m p) else is_segment k && fed_shared m p (inlets_at m p)) h in
    by_bool (is_concat k) (λ e. fed_below_lem m p (inlets_at m p) (ltb-true p slot_places c.1) (rw e at c.2))
    (λ e. fed_shared_lem m p (inlets_at m p) (both (is_segment k) (fed_shared m p (inlets_at m p)) (rw e at c.2)).1)
inlets_in m p k pack h = let c = both4 (is_pack k) (ltb p slot_places) (fed_below m p (inlets_at m p)) (pack_ok m p) h in fed_below_lem m p (inlets_at m p) (ltb-true p slot_places c.1) c.2

-- Retiring

disowned_less : (p q : ℕ) (x : Read) → (disowned p x).owner ≡ some q → x.owner ≡ some q
disowned_less p q x e = by_bool (is_some p x.owner) (λ h. clash (cc)) (λ h. rw h at e)

-- the numbers freed, with one more if there is place
abbrev freed_with : ℕ → List ℕ → List ℕ
freed_with n ns = if leb places (length ns) then ns else n ∷ ns

freed_with_lem : (m : Machine) (n : ℕ) → n < m.made → Ranging ⊥ none_to m → Ranging ⊥ none_to (with_freed (freed_with n m.freed) m)
freed_with_lem m n h r = by_bool (leb places (length m.freed))
    (λ e. rw e r)
    (λ e. rw e (freed_set ⊥ none_to m (n ∷ m.freed) m.made (omega arith) r.lists.made (leb-false places (length m.freed) e) (h, r.lists.freed) r))

-- once its inlets are dropped it goes
retire_rest : (m : Machine) (p n : ℕ) (b : Bool) → p < places → n < m.made → ((x i : ℕ) → There m.ports x → reader_of m.ports x ≢ pipe p i) → Ranging ⊥ none_to m
    → Ranging ⊥ none_to (fault_if b (with_freed (freed_with n m.freed) (with_reads (map (disowned p) m.reads) (set_pipe p (gone (pipe_at m p)) m))))
retire_rest m p n b h k u r =
    fault_set ⊥ none_to (with_freed (freed_with n m.freed) (with_reads (map (disowned p) m.reads) (set_pipe p (gone (pipe_at m p)) m))) b
    (freed_with_lem (with_reads (map (disowned p) m.reads) (set_pipe p (gone (pipe_at m p)) m)) n k
    (reads_set ⊥ none_to (set_pipe p (gone (pipe_at m p)) m) (map (disowned p) m.reads) (length-map m.reads (disowned p))
    (All-image (λ (x : Read). IsFirst m.job x.leaf) (disowned p) m.reads r.lists.reads)
    (All-image (λ (x : Read). (q : ℕ) → x.owner ≡ some q → q < places) (disowned p) m.reads (All-map _ _ (λ x f q e. f q (disowned_less p q x e)) m.reads r.lists.owners))
    (gone_ranging ⊥ none_to m p h u r)))

pub retire_ranging : (m : Machine) (p : ℕ) → Live m.pipes p → Ranging ⊥ none_to m → Ranging ⊥ none_to (retire p m)
unfolding retire
retire_ranging m p l r =
    let d : Drops (inlets_at m p) m (drop_each (inlets_at m p) m) = drop_all (inlets_at m p) m in
    let c : Machine = with_queues d.queues (with_ports d.ports m) in
    let b : PipeBody m p = r.pipes p l in
    let s : Ranging ⊥ none_to c = subst (λ (t : Machine). Ranging ⊥ none_to t) d.is (drops_ranging ⊥ none_to (inlets_at m p) m (inlets_in m p (node_of m.job (node_at_place p)).kind (source_of m.sources p) b.source) r) in
    rw d.is (retire_rest c p (pipe_at m p).number (leb places (length m.freed)) b.bound (number (r.numbers p l)) (λ x i t e. unnamed (subst (λ (w : Machine). Drops (inlets_at m p) m w) d.is d) x i t e) s)
  where
    number : ((pipe_at m p).number < m.made) ⊎ (⊥ × ((pipe_at m p).number ≡ 0)) → (pipe_at m p).number < m.made
    number (inl h) = h
    number (inr h) = absurd h.0

    -- a port that names it is one of its inlets
    inlet : (x i : ℕ) → ReadBy m x p i ⊎ ⊥ → has x (inlets_at m p) ≡ true
    inlet x i (inl h) = at_has (inlets_at m p) i x h.2
    inlet x i (inr h) = absurd h

    unnamed : {c : Machine} → Drops (inlets_at m p) m c → (x i : ℕ) → There c.ports x → reader_of c.ports x ≢ pipe p i
    unnamed d x i t e = d.unread x p i (inlet x i (r.readers x p i (d.there x t) (d.reader x p i t e))) t e

-- pipelines and ports that go: those of a list, and perhaps others
pub record Less (ps : List ℕ) (m m' : Machine) : Type 0 where
  pub job : m'.job ≡ m.job
  pub active : m'.active ≡ m.active
  pub live : (q : ℕ) → Live m'.pipes q → Live m.pipes q × (has q ps ≡ false)
  pub there : (x : ℕ) → There m'.ports x → There m.ports x

-- a retired pipeline is not in use
pub retire_less : (m : Machine) (p : ℕ) → Less (p ∷ []) m (retire p m)
unfolding retire has
retire_less m p =
    let d : Drops (inlets_at m p) m (drop_each (inlets_at m p) m) = drop_all (inlets_at m p) m in
    let there : (x : ℕ) → There d.ports x → There m.ports x = (subst (λ (w : Machine). Drops (inlets_at m p) m w) d.is d).there in
    rw d.is (record { job = refl; active = refl; live = λ q l. let w : Live m.pipes q × (q ≢ p) = went m.pipes p q l in (w.0, rw (ne_eqb q p w.1)); there = there })

-- another lives on
pub retire_lives : (m : Machine) (p q : ℕ) → q ≢ p → Live m.pipes q → Live (retire p m).pipes q
unfolding retire
retire_lives m p q n l = let d : Drops (inlets_at m p) m (drop_each (inlets_at m p) m) = drop_all (inlets_at m p) m in rw d.is (rw other l)
