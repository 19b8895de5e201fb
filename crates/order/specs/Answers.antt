-- At rest every reference answers: the lists of check 12.
use Rattle.std.specs.Prelude.{◌≡◌, refl, Bool, true, ◌||◌, not, List, [], ◌∷◌, ℕ, ◌<◌, ◌≤◌, length, eqb, ltb}
use Rattle.std.proofs.Common.{◌∙◌, arith}
use Rattle.std.proofs.Math.Bool.{false}
use Rattle.std.proofs.Math.Option.{Option, none, some}
use borrow.Author.Tests.{lt-ltb, ltb-true, ltb-false, le-leb, eq-eqb}
use Rattle.rules.specs.Table.{get, has, all, given}
use Rattle.rules.specs.Plan.{Row}
use Rattle.rules.specs.Operators.{Source, segment, concat, pack}
use Rattle.rules.specs.Machine.{Machine, Read, Output, node_at_place, slot_at_place, slot_places, places}
use Rattle.rules.specs.Check.{counts_ok, lists_ok, read_ok, owner_ok, slot_ok, split_count, is_active, is_first, place_ok, is_source}
use Rattle.laws.specs.Table.{by_bool, by_option, clash, and_both}
use Rattle.laws.specs.Rows.{All, All-get}
use Rattle.laws.specs.KidPlaces.{All-map}
use Rattle.order.specs.Inv.{Live, pipe_of, source_of, split_in, count, pend, read_at}
use Rattle.order.specs.State.{Rests}
use Rattle.order.specs.Count.{count_same}
use Rattle.order.specs.Each.{all_true, All-each, all_below, or_first}
use Rattle.order.specs.Ranged.{PlaceRange, IsFirst, Ranged}
use Rattle.order.specs.Tally.{few_differ}

-- Members

-- what is counted in a list holds of its entries
All-count : (P : ℕ → Type 0) (xs : List ℕ) → ((p : ℕ) → 1 ≤ count p xs → P p) → All P xs
All-count P [] h = tt
All-count P (x ∷ xs) h = (h x (omega (arith, count_same x xs)), All-count P xs (λ p c. h p (omega arith)))

All-has : (P : ℕ → Type 0) (xs : List ℕ) → ((p : ℕ) → has p xs ≡ true → P p) → All P xs
unfolding has
All-has P [] h = tt
All-has P (x ∷ xs) h = (h x (rw (eq-eqb x x refl)), All-has P xs (λ p e. h p (or_first (eqb p x) (has p xs) (λ z. e))))

-- Parts

pub not_or : (a b : Bool) → (a ≡ true → b ≡ true) → not a || b ≡ true
not_or true b h = h refl
not_or false b h = refl

given_some : (o : Option ℕ) (s : ℕ) → o ≡ some s → given o ≡ true
unfolding given
given_some o s e = rw e

pub is_active_lem : (m : Machine) (k s : ℕ) → split_in m.active k ≡ some s → is_active m k ≡ true
is_active_lem m k s e = given_some (get none m.active k) s e

pub place_ok_lem : (m : Machine) (p : ℕ) → PlaceRange m p → place_ok m p ≡ true
place_ok_lem m p r = and_both _ _ (lt-ltb (node_at_place p) (length m.job.nodes) r.0) (by_bool (ltb p slot_places)
    (λ e. rw e (let s = r.1 (ltb-true p slot_places e) in is_active_lem m (slot_at_place p) s.0 s.1))
    (λ e. rw e (r.2 (ltb-false p slot_places e))))

pub first_ok : (m : Machine) (g : ℕ) → IsFirst m.job g → is_first m g ≡ true
first_ok m g f = rw (f.0, f.1) (eq-eqb g g refl)

-- Lists

module _ (out : ℕ → List Row) (told : ℕ) (m : Machine) (v : Rests out told m) (r : Ranged m) where
  pub counts_ok_lem : counts_ok m ≡ true
  unfolding counts_ok
  counts_ok_lem =
      and_both _ _ (and_both _ _ (and_both _ _ (and_both _ _ (and_both _ _ (and_both _ _ (and_both _ _ (and_both _ _
      (le-leb _ _ r.lists.is_next) (le-leb _ _ r.lists.made)) (le-leb _ _ r.lists.freed_size)) (le-leb _ _ r.lists.ready_size))
      (le-leb _ _ r.lists.reads_size)) (le-leb _ _ r.lists.news_size))
      (le-leb _ _ (few_differ m.job.slots m.dirty v.dirt.differ (λ k e. let s = v.dirt.active k e in (v.slots.active k s.0 s.1).0))))
      (le-leb _ _ r.lists.outputs_size)) (rw v.sound)

  -- what stands on the ready stack is in use
  ready_live : (p : ℕ) → 1 ≤ count p m.ready → Live m.pipes p
  ready_live p c = by_bool (pipe_of m.pipes p).live (λ e. e)
      (λ e. let z : count p m.ready ≡ 0 = v.queued.counts p ∙ rw e in absurd (omega arith))

  -- a source that waits is a segment source
  waits_source : (s : Source) → pend s ≡ true → is_source s ≡ true
  waits_source (segment a b e) h = refl
  waits_source (concat i) h = clash (cc)
  waits_source pack h = clash (cc)

  owner_ok_lem : (i : ℕ) → i < length m.reads → ((p : ℕ) → (read_at m.reads i).owner ≡ some p → p < places) → owner_ok m (read_at m.reads i).owner ≡ true
  owner_ok_lem i h b = by_option (read_at m.reads i).owner (λ e. rw e)
      (λ p e. let o = v.reads.owned i p h e in
      rw e (and_both _ _ (and_both _ _ (lt-ltb p places (b p e)) o.1) (waits_source (source_of m.sources p) o.2)))

  reads_ok : all (read_ok m) m.reads ≡ true
  reads_ok = all_true (read_ok m) m.reads (All-each (λ x. read_ok m x ≡ true) (record { leaf = 0; owner = none; delivered = true }) m.reads (λ i h. and_both _ _
      (first_ok m (read_at m.reads i).leaf (All-get (λ (x : Read). IsFirst m.job x.leaf) (record { leaf = 0; owner = none; delivered = true }) m.reads i r.lists.reads h))
      (owner_ok_lem i h (All-get (λ (x : Read). (p : ℕ) → x.owner ≡ some p → p < places) (record { leaf = 0; owner = none; delivered = true }) m.reads i r.lists.owners h))))

  slot_ok_lem : (k : ℕ) → slot_ok m k ≡ true
  unfolding given
  slot_ok_lem k = by_option (split_in m.active k)
      (λ e. rw e)
      (λ s e. let a = r.lists.active k s e in
      rw e (and_both _ _ (lt-ltb s (split_count m) a.1) (and_both _ _ (lt-ltb k m.job.slots a.0) (v.ports.roots k s e).0)))

  pub lists_ok_lem : lists_ok m ≡ true
  unfolding lists_ok
  lists_ok_lem =
      and_both _ _ (and_both _ _ (and_both _ _ (and_both _ _ (and_both _ _ (and_both _ _ (and_both _ _
      (all_true _ m.freed (All-map _ _ (λ n h. lt-ltb n m.made h) m.freed r.lists.freed))
      (all_true _ m.ready (All-count _ m.ready (λ p c. let l = ready_live p c in and_both _ _ (lt-ltb p places (v.pipes.bound p l)) l))))
      reads_ok)
      (all_true _ m.news (All-map _ _ (λ n h. lt-ltb n (length m.reads) h) m.news r.lists.news)))
      (all_true _ m.dirty (All-has _ m.dirty (λ k e. let s = v.dirt.active k e in is_active_lem m k s.0 s.1))))
      (all_true _ m.outputs (All-map _ _ (λ (o : Output) h. and_both _ _ (lt-ltb o.split (split_count m) h.0) h.1) m.outputs r.lists.outputs)))
      (all_below (slot_ok m) 3 (λ k h. slot_ok_lem k)))
      (all_below _ 24 (λ g h. not_or (get false m.unbuilt g) (is_first m g) (λ e. first_ok m g (r.lists.unbuilt g e))))
