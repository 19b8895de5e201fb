-- A pipeline that is laid keeps the ranges: its number is still to come.
use Rattle.std.specs.Prelude.{◌≡◌, refl, ◌≢◌, ◌⊎◌, true, false, ◌&&◌, ◌||◌, ℕ, zero, suc, ◌<◌, length, replicate, leb, if◌then◌else◌}
use Rattle.std.proofs.Common.{ap, ◌∙◌, inl, inr, arith, lt-ltb, le-leb, eq-eqb}
use Rattle.std.proofs.Math.Bool.{or-true}
use mathlib.Core.List.{List, []}
use Rattle.std.proofs.Math.Option.{Option, none, some}
use Rattle.std.proofs.lemmas.List.{length-replicate}
use Rattle.rules.specs.Table.{get, put, has, given, is_empty}
use Rattle.rules.specs.Job.{Kind, is_segment, is_pack}
use Rattle.rules.specs.Plan.{node_of}
use Rattle.rules.specs.InletSet.{InletSet}
use Rattle.rules.specs.Port.{Seen, waiting, ended}
use Rattle.rules.specs.Operators.{Source, segment, concat, pack}
use Rattle.rules.specs.Machine.{Machine, Pipeline, Stage, node_at_place, slot_places, places, no_pipe, no_source, no_stage, inlets_at, pieces_at, live, set_pipe, set_source, set_stage, set_inlets, set_touched, set_changed, set_waits, set_seen}
use Rattle.rules.specs.Pipelines.{all_inlets, fresh, is_pack_source, lay}
use Rattle.rules.specs.Check.{source_ok, stage_ok, set_ok, fed_below, fed_shared, pack_ok, same_bool, is_waiting_seen, is_concat}
use Rattle.laws.specs.Table.{same, other, by_eq, clash, and_both, put_length}
use Rattle.order.specs.Inv.{Live, inlets_of, At}
use Rattle.order.specs.Each.{set_ok_lem, all_below}
use Rattle.order.specs.Ranged.{PlaceRange}
use Rattle.order.specs.Ranging.{PipeBody, ReadBy, Ranging, Alike, below_alike, shared_alike, body_alike, port_alike, queue_alike, sizes_alike, lists_alike}
use Rattle.order.specs.RangingMoves.{at_same}
use Rattle.order.specs.Lay.{all_differ, all_low, inlet_has}
use Rattle.order.specs.Lowers.{none_to}

-- All inlets of a pipeline

inlets_ok : (n : ℕ) → set_ok n (all_inlets n) ≡ true
unfolding has
inlets_ok n = set_ok_lem n (all_inlets n) (all_differ n) (all_low n)

get_waiting : (n i : ℕ) → i < n → get ended (replicate n waiting) i ≡ waiting
get_waiting zero i h = absurd (omega arith)
get_waiting (suc n) zero h = refl
get_waiting (suc n) (suc i) h = get_waiting n i (omega arith)

-- What is laid fits its node

abbrev pub Fits : Machine → ℕ → Kind → Source → Option ℕ → List ℕ → Type 0
Fits m p k (segment a b e) cut xs = (is_segment k ≡ true) × (e ≡ 0) × (cut ≡ none) × (xs ≡ [])
Fits m p k (concat i) cut xs =
    (i ≡ 0) × (p < slot_places) × (((is_concat k ≡ true) × (fed_below m p xs ≡ true) × (cut ≡ none)) ⊎ ((is_concat k ≡ false) × (is_segment k ≡ true) × (fed_shared m p xs ≡ true) × ((c : ℕ) → cut ≡ some c → c ≡ 0)))
Fits m p k pack cut xs = (is_pack k ≡ true) × (p < slot_places) × (fed_below m p xs ≡ true) × (cut ≡ none)

abbrev pub laid_stage : Option ℕ → Stage
laid_stage cut = record { cut = cut; continuing = false; finishing = none; more = false }

-- the entries of a laid pipeline
record Laid (m m' : Machine) (p : ℕ) (src : Source) (cut : Option ℕ) (xs : List ℕ) : Type 0 where
  below : (ys : List ℕ) → fed_below m' p ys ≡ fed_below m p ys
  shared : (ys : List ℕ) → fed_shared m' p ys ≡ fed_shared m p ys
  inlets : inlets_of m'.inlets p ≡ xs
  seen : is_pack_source src ≡ true → get [] m'.seen p ≡ replicate (length xs) waiting
  waits : is_pack_source src ≡ true → get [] m'.waits p ≡ all_inlets (length xs)

pack_ok_lem : (m m' : Machine) (p : ℕ) (cut : Option ℕ) (xs : List ℕ) → Laid m m' p pack cut xs → pack_ok m' p ≡ true
pack_ok_lem m m' p cut xs l =
    let n : ℕ = length xs in
    let e : length (replicate n waiting) ≡ n = length-replicate n waiting in
    rw (l.seen refl, l.waits refl, l.inlets, e)
    (and_both _ _ (and_both _ _ (eq-eqb n n refl) (inlets_ok n))
    (all_below (λ i. same_bool (has i (all_inlets n)) (is_waiting_seen (get ended (replicate n waiting) i))) n (λ i h. rw (inlet_has n i h, get_waiting n i h))))

source_laid : (m m' : Machine) (p : ℕ) (k : Kind) (src : Source) (cut : Option ℕ) (xs : List ℕ) → Laid m m' p src cut xs → Fits m p k src cut xs → source_ok m' p k src ≡ true
unfolding is_empty
source_laid m m' p k (segment a b e) cut xs l f = rw (l.inlets, f.3, f.0, f.1) (le-leb 0 (length (pieces_at m' p)) (omega arith))
source_laid m m' p k (concat i) cut xs l f =
    rw (l.inlets, f.0) (and_both _ _ (and_both _ _ (le-leb 0 (length xs) (omega arith)) (lt-ltb p slot_places f.1)) (fed f.2))
  where
    fed : ((is_concat k ≡ true) × (fed_below m p xs ≡ true) × (cut ≡ none)) ⊎ ((is_concat k ≡ false) × (is_segment k ≡ true) × (fed_shared m p xs ≡ true) × ((c : ℕ) → cut ≡ some c → c ≡ 0))
        → (if is_concat k then fed_below m' p xs else is_segment k && fed_shared m' p xs) ≡ true
    fed (inl h) = rw h.0 (l.below xs ∙ h.1)
    fed (inr h) = rw (h.0, h.1) (l.shared xs ∙ h.2)
source_laid m m' p k pack cut xs l f =
    and_both _ _ (and_both _ _ (and_both _ _ f.0 (lt-ltb p slot_places f.1)) (rw l.inlets (l.below xs ∙ f.2))) (pack_ok_lem m m' p cut xs l)

uncut_ok : (m' : Machine) (p : ℕ) → stage_ok m' p (laid_stage none) ≡ true
unfolding given
uncut_ok m' p = and_both _ _ (and_both _ _ (or-true (fed_shared m' p (inlets_at m' p))) refl) refl

-- a stage that cuts is that of a claimed leaf
cut_ok : (m m' : Machine) (p : ℕ) (src : Source) (cut : Option ℕ) (xs : List ℕ) → Laid m m' p src cut xs → fed_shared m p xs ≡ true → ((c : ℕ) → cut ≡ some c → c ≡ 0) → stage_ok m' p (laid_stage cut) ≡ true
unfolding given
cut_ok m m' p src none xs l f h = uncut_ok m' p
cut_ok m m' p src (some c) xs l f h =
    let a : leb c (length (pieces_at m' p)) ≡ true = rw (h c refl) (le-leb 0 (length (pieces_at m' p)) (omega arith)) in
    let b : fed_shared m' p (inlets_at m' p) || false ≡ true = rw (l.inlets, l.shared xs, f) in
    and_both _ _ (and_both _ _ (and_both _ _ a b) refl) refl

stage_laid : (m m' : Machine) (p : ℕ) (k : Kind) (src : Source) (cut : Option ℕ) (xs : List ℕ) → Laid m m' p src cut xs → Fits m p k src cut xs → stage_ok m' p (laid_stage cut) ≡ true
stage_laid m m' p k (segment a b e) cut xs l f = rw f.2 (uncut_ok m' p)
stage_laid m m' p k (concat i) cut xs l f = fed f.2
  where
    fed : ((is_concat k ≡ true) × (fed_below m p xs ≡ true) × (cut ≡ none)) ⊎ ((is_concat k ≡ false) × (is_segment k ≡ true) × (fed_shared m p xs ≡ true) × ((c : ℕ) → cut ≡ some c → c ≡ 0))
        → stage_ok m' p (laid_stage cut) ≡ true
    fed (inl h) = rw h.2 (uncut_ok m' p)
    fed (inr h) = cut_ok m m' p (concat i) cut xs l h.2 h.3
stage_laid m m' p k pack cut xs l f = rw f.3 (uncut_ok m' p)

-- Laying

abbrev pub seen_for : Source → ℕ → List Seen
seen_for s n = if is_pack_source s then replicate n waiting else []

abbrev pub waits_for : Source → ℕ → InletSet
waits_for s n = if is_pack_source s then all_inlets n else []

-- the state with it
abbrev pub laid_in : ℕ → Source → Option ℕ → List ℕ → Machine → Machine
laid_in p src cut xs m =
    set_pipe p fresh (set_source p src (set_stage p (laid_stage cut) (set_inlets p xs (set_touched p [] (set_changed p (all_inlets (length xs))
    (set_waits p (waits_for src (length xs)) (set_seen p (seen_for src (length xs)) m)))))))

module _ (m : Machine) (p : ℕ) (src : Source) (cut : Option ℕ) (xs : List ℕ) where
  laid_is : Laid m (laid_in p src cut xs m) p src cut xs
  laid_is = record {
    below = λ ys. below_alike m (laid_in p src cut xs m) p ys refl;
    shared = λ ys. shared_alike m (laid_in p src cut xs m) p ys refl;
    inlets = same [] m.inlets p xs;
    seen = λ e. same [] m.seen p (seen_for src (length xs)) ∙ rw e;
    waits = λ e. same [] m.waits p (waits_for src (length xs)) ∙ rw e;
  }

  -- its own range
  body_laid : p < places → PlaceRange m p → Fits m p (node_of m.job (node_at_place p)).kind src cut xs → PipeBody (laid_in p src cut xs m) p
  unfolding set_ok
  body_laid h r f = record {
    bound = h;
    place = r;
    source = rw (same no_source m.sources p src) (source_laid m (laid_in p src cut xs m) p (node_of m.job (node_at_place p)).kind src cut xs laid_is f);
    stage = rw (same no_stage m.stages p (laid_stage cut)) (stage_laid m (laid_in p src cut xs m) p (node_of m.job (node_at_place p)).kind src cut xs laid_is f);
    state = rw (ap (λ (w : Pipeline). w.state) (same no_pipe m.pipes p fresh));
    changed = rw (same [] m.inlets p xs, same [] m.changed p (all_inlets (length xs))) (inlets_ok (length xs));
    touched = rw (same [] m.touched p []);
  }

  -- the others are as they were
  others_laid : (q : ℕ) → q ≢ p → Alike m (laid_in p src cut xs m) q
  others_laid q n = record {
    near = record {
      job = refl;
      active = refl;
      inlets = other [] m.inlets p q xs n;
      seen = other [] m.seen p q (seen_for src (length xs)) n;
      waits = other [] m.waits p q (waits_for src (length xs)) n;
    };
    source = other no_source m.sources p q src n;
    stage = other no_stage m.stages p q (laid_stage cut) n;
    changed = other [] m.changed p q (all_inlets (length xs)) n;
    touched = other [] m.touched p q [] n;
  }

-- a pipeline is laid at a free place; what is to be one of its inlets is one now
pub laid_ranging : (to : ℕ → ℕ → ℕ → Type 0) (m : Machine) (p : ℕ) (src : Source) (cut : Option ℕ) (xs : List ℕ) → live m p ≡ false → p < places → PlaceRange m p
    → Fits m p (node_of m.job (node_at_place p)).kind src cut xs → ((x q i : ℕ) → to x q i → (q ≡ p) × (p < slot_places) × At xs i x)
    → Ranging Unit to m → Ranging Unit none_to (laid_in p src cut xs m)
laid_ranging to m p src cut xs d h g f t r = let c : Machine = laid_in p src cut xs m in record {
  job = r.job;
  sizes = sizes_alike m c r.sizes (put_length no_pipe m.pipes p fresh (rw r.sizes.pipes h)) (put_length no_source m.sources p src (rw r.sizes.sources h))
      (put_length no_stage m.stages p (laid_stage cut) (rw r.sizes.stages h)) (put_length [] m.inlets p xs (rw r.sizes.inlets h)) (put_length [] m.touched p [] (rw r.sizes.touched h))
      (put_length [] m.changed p (all_inlets (length xs)) (rw r.sizes.changed h)) (put_length [] m.waits p (waits_for src (length xs)) (rw r.sizes.waits h))
      (put_length [] m.seen p (seen_for src (length xs)) (rw r.sizes.seen h)) refl refl refl refl refl;
  lists = lists_alike m _ _ _ _ _ _ _ _ _ _ _ _ r.lists;
  pipes = λ q l. by_eq q p (λ e. rw e (body_laid m p src cut xs h g f)) (λ n. old q n (down q n l));
  numbers = λ q l. by_eq q p (λ e. rw (at_same no_pipe m.pipes p q fresh e) (inr (tt, refl))) (λ n. rw (other no_pipe m.pipes p q fresh n) (r.numbers q (down q n l)));
  ports = λ x e. port_alike m c x refl (λ i. refl) (r.ports x e);
  readers = λ x q i a e. inl (reads x q i (r.readers x q i a e));
  vacant = r.vacant;
  slots = r.slots;
  queues = λ x. queue_alike m c x refl refl (r.queues x);
}
  where
    down : (q : ℕ) → q ≢ p → Live (put no_pipe m.pipes p fresh) q → Live m.pipes q
    down q n l = rw other at l

    old : (q : ℕ) → q ≢ p → Live m.pipes q → PipeBody (laid_in p src cut xs m) q
    old q n l = body_alike m (laid_in p src cut xs m) q (others_laid m p src cut xs q n) (rw (ap (λ (w : Pipeline). w.state) (other no_pipe m.pipes p q fresh n)) (r.pipes q l).state) (r.pipes q l)

    reads : (x q i : ℕ) → ReadBy m x q i ⊎ to x q i → ReadBy (laid_in p src cut xs m) x q i
    reads x q i (inl a) =
        let n : q ≢ p = λ e. clash (cc (a.1, d, e)) in
        (a.0, rw other a.1, rw (other [] m.inlets p q xs n) a.2)
    reads x q i (inr a) = let b = t x q i a in rw b.0 (b.1, rw (same no_pipe m.pipes p fresh), rw (same [] m.inlets p xs) b.2)

-- the same as `lay`
pub lay_free : (p : ℕ) (src : Source) (cut : Option ℕ) (xs : List ℕ) (m : Machine) → live m p ≡ false → lay p src cut xs m ≡ laid_in p src cut xs m
unfolding lay
lay_free p src cut xs m e = rw (e, lay)
