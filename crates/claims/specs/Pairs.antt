-- The claimants of a segment as numbers: pair y is of leaf y / 16 and split y % 16.
use Rattle.std.specs.Prelude.{◌≡◌, Bool, ◌&&◌, not, eqb, length}
use Rattle.std.proofs.Math.Path.{refl}
use Rattle.std.proofs.Common.{sym, ap, ap₂, ◌∙◌}
use Rattle.std.proofs.Math.Bool.{true, false}
use mathlib.Core.List.{List, [], ◌∷◌, ◌++◌, map, flat_map, map-append, append-nil}
use Rattle.std.proofs.Math.Option.{Option, none, some}
use Prim.Native.Nat.{ℕ, zero, suc, ◌+◌, ◌-◌, ◌*◌, ◌/◌, ◌%◌, ◌≤◌, ◌<◌}
use native.Mathlib.Omega.{arith}
use Rattle.std.proofs.Math.Dec.{ltb}
use Rattle.std.proofs.lemmas.List.{length-map}
use borrow.Author.Tests.{lt-ltb, le-ltb}
use Rattle.rules.specs.Table.{get, filter, find, sum_of, up_from}
use Rattle.rules.specs.Job.{Job}
use Rattle.rules.specs.Plan.{is_leaf, overlaps, names}
use Rattle.rules.specs.Machine.{Machine}
use Rattle.rules.specs.Shares.{claimants, port_of, first_for}
use Rattle.laws.specs.Table.{by_bool, and_both}
use Rattle.layout.specs.Numbers.{mark}
use Rattle.tables.specs.View.{view, Sized}
use Rattle.tables.specs.Job.{split_number}
use Rattle.reach.specs.Leaves.{same_segment}
use Rattle.claims.specs.Lists.{filter_yes, filter_no, filter_append, find_yes, find_no, find_filter, none_up, up_append, up_cons, flat_cons}

-- pair y is of a leaf of the segment of leaf g, and of an unfinished split that overlaps its reach
abbrev pub is_claimant : Job → List Bool → ℕ → ℕ → Bool
is_claimant j f g y = names j g (y / 16) && (ltb (y % 16) (length j.splits) && (overlaps j (y / 16) (y % 16) && not (get false f (y % 16))))

abbrev pair_of : ℕ → ℕ × ℕ
pair_of y = (y / 16, y % 16)

-- the claimants among n pairs from y on
abbrev pub among : Job → List Bool → ℕ → ℕ → ℕ → List ℕ
among j f g y n = filter (is_claimant j f g) (up_from y n)

-- a split is not finished
abbrev unfinished : List Bool → ℕ × ℕ → Bool
unfinished f c = not (get false f c.1)

module _ (j : Job) (f : List Bool) (g l : ℕ) where
  -- a pair of leaf l
  claimant_at : (t : ℕ) → t < 16 → is_claimant j f g (16 * l + t) ≡ (names j g l && (ltb t (length j.splits) && (overlaps j l t && not (get false f t))))
  claimant_at t h =
      let d : (16 * l + t) / 16 ≡ l = omega arith in
      let e : (16 * l + t) % 16 ≡ t = omega arith in
      rw (d, e)

  pair_at : (t : ℕ) → t < 16 → pair_of (16 * l + t) ≡ (l, t)
  pair_at t h =
      let d : (16 * l + t) / 16 ≡ l = omega arith in
      let e : (16 * l + t) % 16 ≡ t = omega arith in
      rw (d, e)

  -- the splits of the job
  own_splits : names j g l ≡ true → (t r : ℕ) → t + r ≤ 16 → t + r ≤ length j.splits
      → filter (unfinished f) (map {B = ℕ × ℕ} (λ s. (l, s)) (filter (overlaps j l) (up_from t r))) ≡ map pair_of (among j f g (16 * l + t) r)
  unfolding filter up_from
  own_splits n t zero a b = refl
  own_splits n t (suc r) a b =
      let e : suc (16 * l + t) ≡ 16 * l + suc t = omega arith in
      let ih = own_splits n (suc t) r (omega arith) (omega arith) in
      let k : ltb t (length j.splits) ≡ true = lt-ltb t (length j.splits) (omega arith) in
      let rest : List ℕ = up_from (suc t) r in
      by_bool (overlaps j l t)
      (λ o. by_bool (get false f t)
      (λ d. let c : is_claimant j f g (16 * l + t) ≡ false = claimant_at t (omega arith) ∙ rw (n, k, o, d) in
      rw (
        filter_yes (overlaps j l) t rest o,
        filter_no (unfinished f) (l, t) (map (λ s. (l, s)) (filter (overlaps j l) rest)) (rw d refl),
        filter_no (is_claimant j f g) (16 * l + t) (up_from (suc (16 * l + t)) r) c,
        e,
      ) ih)
      (λ d. let c : is_claimant j f g (16 * l + t) ≡ true = claimant_at t (omega arith) ∙ rw (n, k, o, d) in
      rw (
        filter_yes (overlaps j l) t rest o,
        filter_yes (unfinished f) (l, t) (map (λ s. (l, s)) (filter (overlaps j l) rest)) (rw d refl),
        filter_yes (is_claimant j f g) (16 * l + t) (up_from (suc (16 * l + t)) r) c,
        e,
        ih,
        pair_at t (omega arith),
      )))
      (λ o. let c : is_claimant j f g (16 * l + t) ≡ false = claimant_at t (omega arith) ∙ rw (n, k, o) in
      rw (filter_no (overlaps j l) t rest o, filter_no (is_claimant j f g) (16 * l + t) (up_from (suc (16 * l + t)) r) c, e) ih)

  -- those past them
  pub no_splits : (t r : ℕ) → length j.splits ≤ t → t + r ≤ 16 → among j f g (16 * l + t) r ≡ []
  no_splits t r a b = none_up (is_claimant j f g) (16 * l + t) r (λ k p q.
      let u : k ≡ 16 * l + (k - 16 * l) = omega arith in
      rw u (claimant_at (k - 16 * l) (omega arith)
      ∙ past (names j g l) (ltb (k - 16 * l) (length j.splits)) _ (le-ltb (k - 16 * l) (length j.splits) (omega arith))))
    where
      past : (x y z : Bool) → y ≡ false → (x && (y && z)) ≡ false
      past true y z e = rw e
      past false y z e = refl

  -- a leaf of another segment, or no leaf
  pub no_leaf : names j g l ≡ false → among j f g (16 * l) 16 ≡ []
  no_leaf n = none_up (is_claimant j f g) (16 * l) 16 (λ k p q.
      let u : k ≡ 16 * l + (k - 16 * l) = omega arith in
      rw u (claimant_at (k - 16 * l) (omega arith) ∙ rw n))

  -- all pairs of leaf l
  leaf_pairs : length j.splits ≤ 16 → names j g l ≡ true
      → filter (unfinished f) (map {B = ℕ × ℕ} (λ s. (l, s)) (filter (overlaps j l) (up_from 0 (length j.splits)))) ≡ map pair_of (among j f g (16 * l) 16)
  leaf_pairs h n =
      let k = length j.splits in
      let a : 16 * l + 0 ≡ 16 * l = omega arith in
      let b : k + (16 - k) ≡ 16 = omega arith in
      let w : up_from (16 * l) k ++ up_from (16 * l + k) (16 - k) ≡ up_from (16 * l) 16 = rw b at (up_append (16 * l) k (16 - k)) in
      let v : among j f g (16 * l) 16 ≡ among j f g (16 * l) k =
      rw (← w, filter_append (is_claimant j f g) (up_from (16 * l) k) (up_from (16 * l + k) (16 - k)), no_splits k (16 - k) (omega arith) (omega arith))
      (append-nil (among j f g (16 * l) k)) in
      rw v (rw a at (own_splits n 0 k (omega arith) (omega arith)))

module _ (j : Job) (f : List Bool) (g : ℕ) (h : length j.splits ≤ 16) where
  abbrev pairs_at : ℕ → List (ℕ × ℕ)
  pairs_at l = map (λ s. (l, s)) (filter (overlaps j l) (up_from 0 (length j.splits)))

  abbrev NodePairs : ℕ → ℕ → Type 0
  NodePairs i n = filter (unfinished f) (flat_map pairs_at (filter (same_segment j g) (filter (is_leaf j) (up_from i n))))
      ≡ map pair_of (among j f g (16 * i) (16 * n))

  -- the pairs of one node, then those of n nodes
  both_parts : (i n : ℕ) → among j f g (16 * i) (16 * suc n) ≡ among j f g (16 * i) 16 ++ among j f g (16 * suc i) (16 * n)
  both_parts i n =
      let a : 16 * suc n ≡ 16 + 16 * n = omega arith in
      let b : 16 * i + 16 ≡ 16 * suc i = omega arith in
      let w : up_from (16 * i) 16 ++ up_from (16 * suc i) (16 * n) ≡ up_from (16 * i) (16 * suc n) = rw (a, ← b) (up_append (16 * i) 16 (16 * n)) in
      ap (filter (is_claimant j f g)) (sym w) ∙ filter_append (is_claimant j f g) (up_from (16 * i) 16) (up_from (16 * suc i) (16 * n))

  -- a node that is no leaf of the segment
  skipped : (i n : ℕ) → names j g i ≡ false → NodePairs (suc i) n
      → filter (unfinished f) (flat_map pairs_at (filter (same_segment j g) (filter (is_leaf j) (up_from (suc i) n))))
      ≡ map pair_of (among j f g (16 * i) (16 * suc n))
  skipped i n e ih = ih ∙ ap (map pair_of) (sym (both_parts i n ∙ ap (λ (t : List ℕ). t ++ among j f g (16 * suc i) (16 * n)) (no_leaf j f g i e)))

  -- a leaf of it
  added : (i n : ℕ) → names j g i ≡ true → NodePairs (suc i) n
      → filter (unfinished f) (pairs_at i ++ flat_map pairs_at (filter (same_segment j g) (filter (is_leaf j) (up_from (suc i) n))))
      ≡ map pair_of (among j f g (16 * i) (16 * suc n))
  added i n e ih =
      filter_append (unfinished f) (pairs_at i) (flat_map pairs_at (filter (same_segment j g) (filter (is_leaf j) (up_from (suc i) n))))
      ∙ ap₂ ◌++◌ (leaf_pairs j f g i h e) ih
      ∙ sym (ap (map pair_of) (both_parts i n) ∙ map-append pair_of (among j f g (16 * i) 16) (among j f g (16 * suc i) (16 * n)))

  node_step : (i n : ℕ) → NodePairs (suc i) n → NodePairs i (suc n)
  node_step i n ih =
      let rest : List ℕ = up_from (suc i) n in
      rw (up_cons i n)
      (by_bool (is_leaf j i)
      (λ e. by_bool (same_segment j g i)
      (λ d. rw (
        filter_yes (is_leaf j) i rest e,
        filter_yes (same_segment j g) i (filter (is_leaf j) rest) d,
        flat_cons pairs_at i (filter (same_segment j g) (filter (is_leaf j) rest)),
      ) (added i n (and_both (is_leaf j i) (same_segment j g i) e d) ih))
      (λ d. rw (filter_yes (is_leaf j) i rest e, filter_no (same_segment j g) i (filter (is_leaf j) rest) d) (skipped i n (rw (e, d) refl) ih)))
      (λ e. rw (filter_no (is_leaf j) i rest e) (skipped i n (rw e refl) ih)))

  -- n nodes from i on
  node_pairs : (i n : ℕ) → NodePairs i n
  unfolding filter up_from flat_map
  node_pairs i zero = refl
  node_pairs i (suc n) = node_step i n (node_pairs (suc i) n)

-- all of them
abbrev pub all : Machine → ℕ → List ℕ
all m l = among m.job m.finished l 0 (16 * length m.job.nodes)

pub claimants_are : (m : Machine) (l : ℕ) → length m.job.splits ≤ 16 → claimants m l ≡ map pair_of (all m l)
claimants_are m l h = node_pairs m.job m.finished l h 0 (length m.job.nodes)

-- Their ports

ports_of : (ys : List ℕ) → map port_of (map pair_of ys) ≡ map (λ y. 72 + y) ys
ports_of [] = refl
ports_of (y ∷ ys) = let e : 72 + (16 * (y / 16) + y % 16) ≡ 72 + y = omega arith in rw (e, ports_of ys)

pub ports_are : (m : Machine) (l : ℕ) → length m.job.splits ≤ 16 → map port_of (claimants m l) ≡ map (λ y. 72 + y) (all m l)
ports_are m l h = ap (map port_of) (claimants_are m l h) ∙ ports_of (all m l)

-- The first for a split

abbrev pub port_for : Option ℕ → Option ℕ
port_for none = none
port_for (some y) = some (72 + y)

first_of : (t : ℕ) (ys : List ℕ) → first_for t (map pair_of ys) ≡ port_for (find (λ y. eqb (y % 16) t) ys)
unfolding find
first_of t [] = refl
first_of t (y ∷ ys) = by_bool (eqb (y % 16) t)
    (λ e. let d : 72 + (16 * (y / 16) + y % 16) ≡ 72 + y = omega arith in
    rw (find_yes (λ (c : ℕ × ℕ). eqb c.1 t) (pair_of y) (map pair_of ys) e, first_for, find_yes (λ y. eqb (y % 16) t) y ys e, d))
    (λ e. rw (find_no (λ (c : ℕ × ℕ). eqb c.1 t) (pair_of y) (map pair_of ys) e, first_for, find_no (λ y. eqb (y % 16) t) y ys e) (first_of t ys))

-- pair y is a claimant, of split t
abbrev pub takes : Machine → ℕ → ℕ → ℕ → Bool
takes m l t y = is_claimant m.job m.finished l y && eqb (y % 16) t

-- the first for split t is found among the pairs from y to n
abbrev pub FirstIn : Machine → ℕ → ℕ → ℕ → ℕ → Type 0
FirstIn m l t n y = first_for t (claimants m l) ≡ port_for (find (takes m l t) (up_from y (n - y)))

pub first_start : (m : Machine) (l t n : ℕ) → length m.job.splits ≤ 16 → n ≡ 16 * length m.job.nodes → FirstIn m l t n 0
first_start m l t n h e =
    let z : n - 0 ≡ 16 * length m.job.nodes = omega arith in
    rw z (ap (first_for t) (claimants_are m l h) ∙ first_of t (all m l)
    ∙ ap port_for (find_filter (is_claimant m.job m.finished l) (λ y. eqb (y % 16) t) (up_from 0 (16 * length m.job.nodes))))

pub first_none : (m : Machine) (l t n y : ℕ) → n ≤ y → FirstIn m l t n y → none ≡ first_for t (claimants m l)
unfolding up_from find
first_none m l t n y h f = let e : n - y ≡ 0 = omega arith in sym (f ∙ rw e refl)

-- How many

pub mark_tested : (p : ℕ → Bool) (xs : List ℕ) → length (filter p xs) ≡ sum_of (λ x. mark (p x)) xs
unfolding filter sum_of
mark_tested p [] = refl
mark_tested p (x ∷ xs) = by_bool (p x) (λ e. rw (filter_yes p x xs e, e) (omega (arith, mark_tested p xs)))
    (λ e. rw (filter_no p x xs e, e) (omega (arith, mark_tested p xs)))

abbrev pub claim_mark : Machine → ℕ → ℕ → ℕ
claim_mark m l y = mark (is_claimant m.job m.finished l y)

pub count_is : (m : Machine) (l n : ℕ) → length m.job.splits ≤ 16 → n ≡ 16 * length m.job.nodes →
    length (claimants m l) ≡ sum_of (claim_mark m l) (up_from 0 n)
count_is m l n h e = rw e (ap length (claimants_are m l h) ∙ length-map (all m l) pair_of
    ∙ mark_tested (is_claimant m.job m.finished l) (up_from 0 (16 * length m.job.nodes)))

-- a stored job has at most 16 splits
pub few_splits : (s : List ℕ) → Sized s → length (view s).job.splits ≤ 16
few_splits s z = omega (arith, split_number s z)

-- The tests of a pair, as they are made

pub claimant_not : (m : Machine) (l y : ℕ) (b : Bool) → b ≡ names m.job l (y / 16) → b ≡ false → false ≡ is_claimant m.job m.finished l y
claimant_not m l y b e h = let u : names m.job l (y / 16) ≡ false = sym e ∙ h in rw u

pub claimant_is : (m : Machine) (l y k : ℕ) (b w o c u a r : Bool) → b ≡ names m.job l (y / 16) → b ≡ true → k ≡ length m.job.splits → w ≡ ltb (y % 16) k
    → o ≡ overlaps m.job (y / 16) (y % 16) → c ≡ get false m.finished (y % 16) → u ≡ not c → a ≡ (o && u) → r ≡ (w && a)
    → r ≡ is_claimant m.job m.finished l y
claimant_is m l y k b w o c u a r e h f g i d p q v =
    let n : names m.job l (y / 16) ≡ true = sym e ∙ h in
    rw (n, v, q, p, d, i, g, f)

pub mark_few : (b : Bool) (r : ℕ) → r ≡ mark b → r ≤ 1
mark_few true r e = omega arith
mark_few false r e = omega arith
