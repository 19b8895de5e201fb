-- What the retirement of several pipelines comes to.
use Rattle.std.specs.Prelude.{◌≡◌, refl, ◌≢◌, Bool, true, false, ◌&&◌, ◌||◌, List, [], ◌∷◌, map, ℕ, zero, suc, ◌+◌, ◌<◌, ◌≤◌, length, eqb, leb}
use Rattle.std.proofs.Common.{sym, ap, ◌∙◌, subst, arith, eq-eqb, ne_eqb}
use Rattle.std.proofs.Math.Bool.{or-false}
use Rattle.std.proofs.Math.Option.{some}
use Rattle.std.proofs.lemmas.List.{length-map}
use Rattle.std.proofs.lemmas.Bool.{lt-leb}
use Rattle.rules.specs.Table.{get, put, filter, has, is_some}
use Rattle.rules.specs.Port.{Batch}
use Rattle.rules.specs.Machine.{Machine, Pipeline, Port, Read, no_pipe, no_port, places, is_share_port, port_at, pipe_at, inlets_at, set_port, set_queue, with_pipes, with_ports, with_queues, with_ready, with_reads, with_freed}
use Rattle.rules.specs.Ports.{free_port, free_each, readerless, drop_inlet, drop_each}
use Rattle.rules.specs.Pipelines.{disowned, gone, retire, without, inserted, by_number, retire_each}
use Rattle.laws.specs.Table.{by_bool, by_eq, clash, same, other, put_length}
use Rattle.order.specs.Inv.{Live, port_of, queue_of, pipe_of, inlets_of, Differ, count, bit, lives, read_at}
use Rattle.order.specs.Count.{lives_some}
use Rattle.order.specs.Lists.{has_later, by_has}
use Rattle.order.specs.Clear.{clear}
use Rattle.order.specs.Tally.{lives_put}
use Rattle.order.specs.Remove.{Lessened}

-- Numbers in lists

-- one that is not among the first and not among the rest
pub has_none : (q p : ℕ) (ps : List ℕ) → has q (p ∷ ps) ≡ false → (q ≢ p) × (has q ps ≡ false)
unfolding has
has_none q p ps e = by_bool (eqb q p) (λ c. clash (cc)) (λ c. (λ d. clash (cc (eq-eqb q p d)), rw c at e))

pub none_has : (q p : ℕ) (ps : List ℕ) → q ≢ p → has q ps ≡ false → has q (p ∷ ps) ≡ false
unfolding has
none_has q p ps n e = rw (ne_eqb q p n, e)

pub has_one : (q p : ℕ) → has q (p ∷ []) ≡ true → q ≡ p
unfolding has
has_one q p e = by_has q p [] e (λ d. d) (λ d. clash (cc))

pub one_has : (p : ℕ) (ps : List ℕ) → has p (p ∷ ps) ≡ true
unfolding has
one_has p ps = rw (eq-eqb p p refl)

pub one_none : (q p : ℕ) → q ≢ p → has q (p ∷ []) ≡ false
unfolding has
one_none q p n = none_has q p [] n refl

-- the ready stack without one
count_without : (p q : ℕ) (xs : List ℕ) → q ≢ p → count q (without p xs) ≡ count q xs
unfolding filter
count_without p q [] n = refl
count_without p q (x ∷ xs) n = by_eq p x
    (λ e. rw (eq-eqb p x e, filter, count_without p q xs n, ne_eqb q x (λ d. n (d ∙ sym e))) (omega arith))
    (λ d. rw (ne_eqb p x d, filter, count_without p q xs n))

without_none : (p : ℕ) (xs : List ℕ) → count p (without p xs) ≡ 0
unfolding filter
without_none p [] = refl
without_none p (x ∷ xs) = by_eq p x
    (λ e. rw (eq-eqb p x e, filter) (without_none p xs))
    (λ d. rw (ne_eqb p x d, filter, ne_eqb p x d, without_none p xs) (omega arith))

-- By rising number: each live one once

inserted_has : (P : List Pipeline) (p q : ℕ) (ps : List ℕ) → has q (inserted P p ps) ≡ has q (p ∷ ps)
unfolding inserted has
inserted_has P p q [] = refl
inserted_has P p q (r ∷ ps) = by_bool (leb (get no_pipe P p).number (get no_pipe P r).number)
    (λ e. rw (e, inserted))
    (λ e. rw (e, inserted, inserted_has P p q ps) (swap (eqb q r) (eqb q p) (has q ps)))
  where
    swap : (a b c : Bool) → a || (b || c) ≡ b || (a || c)
    swap true true c = refl
    swap true false c = refl
    swap false b c = refl

inserted_differ : (P : List Pipeline) (p : ℕ) (ps : List ℕ) → has p ps ≡ false → Differ ps → Differ (inserted P p ps)
unfolding inserted has
inserted_differ P p [] e u = (refl, tt)
inserted_differ P p (r ∷ ps) e u = let n = has_none p r ps e in by_bool (leb (get no_pipe P p).number (get no_pipe P r).number)
    (λ c. rw (c, inserted) (e, u))
    (λ c. rw (c, inserted) (inserted_has P p r ps ∙ none_has r p ps (λ d. n.0 (sym d)) u.0, inserted_differ P p ps n.1 u.1))

pub number_has : (P : List Pipeline) (q : ℕ) (ps : List ℕ) → has q (by_number P ps) ≡ has q ps && (pipe_of P q).live
unfolding by_number has
number_has P q [] = refl
number_has P q (p ∷ ps) = by_bool (get no_pipe P p).live
    (λ e. rw (e, by_number, inserted_has P p q (by_number P ps), number_has P q ps) (by_eq q p (λ d. rw (eq-eqb q p d, d, e)) (λ d. rw (ne_eqb q p d))))
    (λ e. rw (e, by_number, number_has P q ps) (by_eq q p (λ d. rw (eq-eqb q p d, d, e) (and_no (has p ps))) (λ d. rw (ne_eqb q p d))))
  where
    and_no : (b : Bool) → b && false ≡ false
    and_no true = refl
    and_no false = refl

pub number_differ : (P : List Pipeline) (ps : List ℕ) → Differ ps → Differ (by_number P ps)
unfolding by_number
number_differ P [] u = tt
number_differ P (p ∷ ps) u = by_bool (get no_pipe P p).live
    (λ e. rw (e, by_number) (inserted_differ P p (by_number P ps) (number_has P p ps ∙ rw u.0) (number_differ P ps u.1)))
    (λ e. rw (e, by_number) (number_differ P ps u.1))

-- Ports that are dropped

abbrev pub Same : Machine → List Port → List (List Batch) → ℕ → Type 0
Same m O' Q' y = (port_of O' y ≡ port_of m.ports y) × (queue_of Q' y ≡ queue_of m.queues y)

abbrev pub Blank : List Port → List (List Batch) → ℕ → Type 0
Blank O' Q' y = (port_of O' y ≡ no_port) × (queue_of Q' y ≡ [])

pub free_is : (xs : List ℕ) (m : Machine) → free_each xs m ≡ with_queues (clear [] xs m.queues) (with_ports (clear no_port xs m.ports) m)
unfolding free_each clear
free_is [] m = refl
free_is (x ∷ xs) m = free_is xs (free_port x m)

record Inlets (xs : List ℕ) (m m' : Machine) : Type 0 where
  ports : List Port
  queues : List (List Batch)
  is : m' ≡ with_queues queues (with_ports ports m)
  off : (y : ℕ) → has y xs ≡ false → Same m ports queues y
  share : (y : ℕ) → has y xs ≡ true → is_share_port y ≡ true → Blank ports queues y

-- one port
drop_port : (x : ℕ) (w : Port) (m : Machine) → (is_share_port x ≡ true → w ≡ no_port) → Inlets (x ∷ []) m (set_queue x [] (set_port x w m))
drop_port x w m h = record {
  ports = put no_port m.ports x w;
  queues = put [] m.queues x [];
  is = refl;
  off = λ y e. let n = (has_none y x [] e).0 in (other no_port m.ports x y w n, other [] m.queues x y [] n);
  share = λ y e s. let d : y ≡ x = has_one y x e in (rw (d, same) (h (rw d at s)), rw (d, same));
}

drop_one : (x : ℕ) (m : Machine) → Inlets (x ∷ []) m (drop_inlet x m)
drop_one x m = by_bool ((port_at m x).closed || is_share_port x)
    (λ e. rw (e, drop_inlet) (drop_port x no_port m (λ s. refl)))
    (λ e. rw (e, drop_inlet) (drop_port x (readerless (port_at m x)) m
    (λ s. clash (let c : (port_at m x).closed || true ≡ false = rw s at e in cc (c, or_yes (port_at m x).closed)))))
  where
    or_yes : (b : Bool) → b || true ≡ true
    or_yes true = refl
    or_yes false = refl

-- then others
drop_more : (x : ℕ) (xs : List ℕ) (m c e : Machine) → Inlets (x ∷ []) m c → Inlets xs c e → Inlets (x ∷ xs) m e
drop_more x xs m c e a b' = let b : Inlets xs (with_queues a.queues (with_ports a.ports m)) e = subst (λ (t : Machine). Inlets xs t e) a.is
    b' in record {
      ports = b.ports;
      queues = b.queues;
      is = b.is;
      off = λ y h. let n = has_none y x xs h in let f = b.off y n.1 in let g = a.off y (one_none y x n.0) in (f.0 ∙ g.0, f.1 ∙ g.1);
      share = λ y h s. by_bool (has y xs)
          (λ d. b.share y d s)
          (λ d. let f = b.off y d in let g = a.share y (by_has y x xs h (λ i. rw i (one_has x [])) (λ i. clash (cc))) s in (f.0 ∙ g.0, f.1 ∙ g.1));
    }

drop_all : (xs : List ℕ) (m : Machine) → Inlets xs m (drop_each xs m)
unfolding drop_each has
drop_all [] m = record { ports = m.ports; queues = m.queues; is = refl; off = λ y e. (refl, refl); share = λ y e. clash (cc) }
drop_all (x ∷ xs) m = drop_more x xs m (drop_inlet x m) (drop_each xs (drop_inlet x m)) (drop_one x m) (drop_all xs (drop_inlet x m))

-- Reads

disown_at : (p : ℕ) (R : List Read) (r : ℕ) → read_at (map (disowned p) R) r ≡ disowned p (read_at R r)
unfolding is_some
disown_at p [] r = refl
disown_at p (x ∷ R) zero = refl
disown_at p (x ∷ R) (suc r) = disown_at p R r

disown_owner : (p q : ℕ) (x : Read) → (disowned p x).owner ≡ some q → (x.owner ≡ some q) × (has q (p ∷ []) ≡ false)
unfolding is_some has
disown_owner p q x e = by_bool (is_some p x.owner) (λ h. clash (cc))
    (λ h. let f : x.owner ≡ some q = rw h at e in
    let g : eqb p q ≡ false = rw f at h in
    (f, none_has q p [] (λ d. clash (cc (eq-eqb p q (sym d)))) refl))

disown_owns : (p q : ℕ) (x : Read) → q ≢ p → x.owner ≡ some q → (disowned p x).owner ≡ some q
unfolding is_some
disown_owns p q x n e = rw (e, ne_eqb p q (λ d. n (sym d)))

-- Pipelines that go, one after the other

pub less_none : (P : List Pipeline) (rd : List ℕ) (R : List Read) (fr : List ℕ) → Lessened [] P P rd rd R R fr fr
unfolding has
less_none P rd R fr = record {
  dead = λ p e. clash (cc);
  kept = λ p e. refl;
  size = refl;
  balance = refl;
  gone = λ p e. clash (cc);
  ready = λ p e. refl;
  reads = refl;
  leaf = λ r. refl;
  came = λ r. refl;
  owner = λ r p e. (e, refl);
  owns = λ r p h e. e;
}

less_then : (p : ℕ) (ps : List ℕ) (P P1 P2 : List Pipeline) (d d1 d2 : List ℕ) (R R1 R2 : List Read) (f f1 f2 : List ℕ)
    → Lessened (p ∷ []) P P1 d d1 R R1 f f1 → Lessened ps P1 P2 d1 d2 R1 R2 f1 f2 → Lessened (p ∷ ps) P P2 d d2 R R2 f f2
less_then p ps P P1 P2 d d1 d2 R R1 R2 f f1 f2 a b = record {
  dead = λ q h. by_bool (has q ps) (λ e. b.dead q e) (λ e. ap (λ (x : Pipeline). x.live) (b.kept q e) ∙ a.dead q (first q h e));
  kept = λ q h. let n = has_none q p ps h in b.kept q n.1 ∙ a.kept q (only q n.0);
  size = b.size ∙ a.size;
  balance = b.balance ∙ a.balance;
  gone = λ q h. by_bool (has q ps) (λ e. b.gone q e) (λ e. b.ready q e ∙ a.gone q (first q h e));
  ready = λ q h. let n = has_none q p ps h in b.ready q n.1 ∙ a.ready q (only q n.0);
  reads = b.reads ∙ a.reads;
  leaf = λ r. b.leaf r ∙ a.leaf r;
  came = λ r. b.came r ∙ a.came r;
  owner = λ r q e. let g = b.owner r q e in let h = a.owner r q g.0 in (h.0, none_has q p ps (has_none q p [] h.1).0 g.1);
  owns = λ r q h e. let n = has_none q p ps h in b.owns r q n.1 (a.owns r q (only q n.0) e);
}
  where
    first : (q : ℕ) → has q (p ∷ ps) ≡ true → has q ps ≡ false → has q (p ∷ []) ≡ true
    first q h e = by_has q p ps h (λ i. rw i (one_has p [])) (λ i. clash (cc))

    only : (q : ℕ) → q ≢ p → has q (p ∷ []) ≡ false
    only q n = one_none q p n

-- what the retirement of a list comes to
pub record Gone (ps : List ℕ) (m m' : Machine) : Type 0 where
  pub pipes' : List Pipeline
  pub ports' : List Port
  pub queues' : List (List Batch)
  pub ready' : List ℕ
  pub reads' : List Read
  pub freed' : List ℕ
  pub is : m' ≡ with_freed freed' (with_reads reads' (with_ready ready' (with_pipes pipes' (with_queues queues' (with_ports ports' m)))))
  pub less : Lessened ps m.pipes pipes' m.ready ready' m.reads reads' m.freed freed'
  -- a port that none of them reads is as it was, and a shared one that one of them reads is gone
  pub off : (y : ℕ) → ((p : ℕ) → has p ps ≡ true → has y (inlets_of m.inlets p) ≡ false) → Same m ports' queues' y
  pub share : (y p : ℕ) → has p ps ≡ true → has y (inlets_of m.inlets p) ≡ true → is_share_port y ≡ true → Blank ports' queues' y
  pub blank : (y : ℕ) → is_share_port y ≡ true → Blank m.ports m.queues y → Blank ports' queues' y

abbrev after : (ps : List ℕ) (m m' : Machine) → Gone ps m m' → Machine
after ps m m' a = with_freed a.freed' (with_reads a.reads'
    (with_ready a.ready' (with_pipes a.pipes' (with_queues a.queues' (with_ports a.ports' m)))))

one_less : (p : ℕ) (m : Machine) → Live m.pipes p → p < length m.pipes
    → Lessened (p ∷ []) m.pipes (put no_pipe m.pipes p (gone (pipe_at m p))) m.ready (without p m.ready) m.reads
    (map (disowned p) m.reads) m.freed ((pipe_at m p).number ∷ m.freed)
one_less p m l low = record {
  dead = λ q h. let d : q ≡ p = has_one q p h in rw (d, same);
  kept = λ q h. other no_pipe m.pipes p q (gone (pipe_at m p)) (has_none q p [] h).0;
  size = put_length no_pipe m.pipes p (gone (pipe_at m p)) low;
  balance = let a : lives (put no_pipe m.pipes p (gone (pipe_at m p))) + bit (pipe_of m.pipes p).live ≡ lives m.pipes + bit false = lives_put
      m.pipes p (gone (pipe_at m p)) in
      let b : lives (put no_pipe m.pipes p (gone (pipe_at m p))) + 1 ≡ lives m.pipes + 0 = rw l at a in omega (arith, b);
  gone = λ q h. let d : q ≡ p = has_one q p h in rw d (without_none p m.ready);
  ready = λ q h. count_without p q m.ready (has_none q p [] h).0;
  reads = length-map m.reads (disowned p);
  leaf = λ r. rw (disown_at p m.reads r);
  came = λ r. rw (disown_at p m.reads r);
  owner = λ r q e. disown_owner p q (read_at m.reads r) (sym (ap (λ (x : Read). x.owner) (disown_at p m.reads r)) ∙ e);
  owns = λ r q h e. ap (λ (x : Read). x.owner) (disown_at p m.reads r) ∙ disown_owns p q (read_at m.reads r) (has_none q p [] h).0 e;
}

retire_one : (p : ℕ) (m : Machine) → Live m.pipes p → p < length m.pipes → length m.freed < places
    → Gone (p ∷ []) m (retire p (with_ready (without p m.ready) m))
unfolding retire
retire_one p m l low few =
    let d : Inlets (inlets_at m p) (with_ready (without p m.ready) m) (drop_each (inlets_at m p) (with_ready (without p m.ready) m)) = drop_all
    (inlets_at m p) (with_ready (without p m.ready) m) in
    rw (d.is, lt-leb places (length m.freed) few, or-false m.fault) (record {
      pipes' = put no_pipe m.pipes p (gone (pipe_at m p));
      ports' = d.ports;
      queues' = d.queues;
      ready' = without p m.ready;
      reads' = map (disowned p) m.reads;
      freed' = (pipe_at m p).number ∷ m.freed;
      is = refl;
      less = one_less p m l low;
      off = λ y h. d.off y (h p (one_has p []));
      share = λ y q h e s. let i : q ≡ p = has_one q p h in d.share y (rw i at e) s;
      blank = λ y s b. by_bool (has y (inlets_at m p)) (λ e. d.share y e s) (λ e. let f = d.off y e in (f.0 ∙ b.0, f.1 ∙ b.1));
    })

gone_then : (p : ℕ) (ps : List ℕ) (m c e : Machine) (a : Gone (p ∷ []) m c) → Gone ps (after (p ∷ []) m c a) e → Gone (p ∷ ps) m e
gone_then p ps m c e a b = record {
  pipes' = b.pipes';
  ports' = b.ports';
  queues' = b.queues';
  ready' = b.ready';
  reads' = b.reads';
  freed' = b.freed';
  is = b.is;
  less = less_then p ps m.pipes a.pipes' b.pipes' m.ready a.ready' b.ready' m.reads a.reads' b.reads' m.freed
      a.freed' b.freed' a.less b.less;
  off = λ y h. let f = b.off y (λ q i. h q (has_later q p ps i)) in let g = a.off y
      (λ q i. let d : q ≡ p = has_one q p i in rw d (h p (one_has p ps))) in (f.0 ∙ g.0, f.1 ∙ g.1);
  share = λ y q h i s. by_has q p ps h (λ d. b.blank y s (a.share y p (one_has p []) (rw d at i) s)) (λ d. b.share y q d i s);
  blank = λ y s h. b.blank y s (a.blank y s h);
}

gone_none : (m : Machine) → Gone [] m m
unfolding has
gone_none m = record {
  pipes' = m.pipes;
  ports' = m.ports;
  queues' = m.queues;
  ready' = m.ready;
  reads' = m.reads;
  freed' = m.freed;
  is = refl;
  less = less_none m.pipes m.ready m.reads m.freed;
  off = λ y h. (refl, refl);
  share = λ y p h. clash (cc);
  blank = λ y s h. h;
}

-- pipelines of a list that may go: each lives, and stands there once
pub record MayGo (ps : List ℕ) (m : Machine) : Type 0 where
  pub differ : Differ ps
  pub live : (p : ℕ) → has p ps ≡ true → Live m.pipes p
  pub low : (p : ℕ) → has p ps ≡ true → p < length m.pipes
  pub few : length m.freed + lives m.pipes ≤ places

go_on : (p : ℕ) (ps : List ℕ) (m c : Machine) (a : Gone (p ∷ []) m c) → MayGo (p ∷ ps) m → MayGo ps (after (p ∷ []) m c a)
go_on p ps m c a g = record {
  differ = g.differ.1;
  live = λ q h. ap (λ (x : Pipeline). x.live) (a.less.kept q (apart q h)) ∙ g.live q (has_later q p ps h);
  low = λ q h. rw a.less.size (g.low q (has_later q p ps h));
  few = omega (arith, a.less.balance, g.few);
}
  where
    apart : (q : ℕ) → has q ps ≡ true → has q (p ∷ []) ≡ false
    apart q h = one_none q p (λ d. clash (cc (g.differ.0, rw d at h)))

retires_step : (p : ℕ) (ps : List ℕ) (m : Machine) → MayGo (p ∷ ps) m → ((c : Machine) → MayGo ps c → Gone ps c (retire_each ps c))
    → Gone (p ∷ ps) m (retire_each (p ∷ ps) m)
unfolding retire_each
retires_step p ps m g ih =
    let n : Machine = retire p (with_ready (without p m.ready) m) in
    let l : Live m.pipes p = g.live p (one_has p ps) in
    let a : Gone (p ∷ []) m n = retire_one p m l (g.low p (one_has p ps)) (omega (arith, lives_some m.pipes p l, g.few)) in
    gone_then p ps m n (retire_each ps n) a (subst (λ (t : Machine). Gone ps (after (p ∷ []) m n a) (retire_each ps t)) (sym a.is)
    (ih (after (p ∷ []) m n a) (go_on p ps m n a g)))

pub retires : (ps : List ℕ) (m : Machine) → MayGo ps m → Gone ps m (retire_each ps m)
unfolding retire_each
retires [] m g = gone_none m
retires (p ∷ ps) m g = retires_step p ps m g (retires ps)

-- splits are as they were
drops_splits : (xs : List ℕ) (m : Machine) → ((drop_each xs m).next ≡ m.next) × ((drop_each xs m).active ≡ m.active)
drops_splits xs m = let d = drop_all xs m in rw d.is (refl, refl)

pub retires_next : (ps : List ℕ) (m : Machine) → ((retire_each ps m).next ≡ m.next) × ((retire_each ps m).active ≡ m.active)
unfolding retire_each retire
retires_next [] m = (refl, refl)
retires_next (p ∷ ps) m =
    let n : Machine = retire p (with_ready (without p m.ready) m) in
    let a = retires_next ps n in
    let b = drops_splits (inlets_at m p) (with_ready (without p m.ready) m) in
    (a.0 ∙ b.0, a.1 ∙ b.1)
