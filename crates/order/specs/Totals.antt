-- Sums and counts for the bound.
use Rattle.std.specs.Prelude.{◌≡◌, refl, ◌≢◌, Bool, true, false, length, eqb}
use Rattle.std.proofs.Common.{sym, ap, ◌∙◌, length-append, eqb-true, eq-eqb}
use mathlib.Core.List.{List, [], ◌∷◌, map, flat_map}
use Prim.Native.Nat.{ℕ, zero, suc, ◌+◌, ◌<◌, ◌≤◌}
use native.Mathlib.Omega.{arith}
use Rattle.rules.specs.Table.{get, has, up_from, sum_of, filter}
use Rattle.rules.specs.Job.{Run, Split, Job}
use Rattle.rules.specs.Plan.{no_split, split_of, root_of, row_of, positions, kept_rows, is_leaf, first_leaf, leaves, segment_count, row_count}
use Rattle.laws.specs.Table.{by_bool, by_eq, clash}
use Rattle.order.specs.Inv.{bit, Differ}
use Rattle.order.specs.Leaves.{map_has, filter_has, leaf_has, either, or-true, or_inl, or_inr}
use Rattle.order.specs.Lists.{up_length, up_has}
use Rattle.order.specs.Tally.{bit_most}

-- Counts of numbers below n

abbrev pub count_upto : (ℕ → Bool) → ℕ → ℕ
count_upto f zero = 0
count_upto f (suc n) = bit (f n) + count_upto f n

pub count_most : (f : ℕ → Bool) (n : ℕ) → count_upto f n ≤ n
count_most f zero = omega arith
count_most f (suc n) = omega (arith, bit_most (f n), count_most f n)

-- one does not pass
pub count_less : (f : ℕ → Bool) (n r : ℕ) → r < n → f r ≡ false → count_upto f n < n
count_less f zero r h e = absurd (omega arith)
count_less f (suc n) r h e = by_eq r n (λ q. rw (← q, e) (omega (arith, count_most f r)))
    (λ q. omega (arith, bit_most (f n), count_less f n r (omega arith) e))

pub count_same : (f g : ℕ → Bool) (n : ℕ) → ((r : ℕ) → r < n → f r ≡ g r) → count_upto f n ≡ count_upto g n
count_same f g zero h = refl
count_same f g (suc n) h = rw (h n (omega arith), count_same f g n (λ r a. h r (omega arith)))

-- one more passes
pub count_more : (f g : ℕ → Bool) (n r : ℕ) → r < n → f r ≡ false → g r ≡ true → ((q : ℕ) → q ≢ r → g q ≡ f q) → count_upto g n ≡ suc (count_upto f n)
count_more f g zero r h e d k = absurd (omega arith)
count_more f g (suc n) r h e d k = by_eq r n
    (λ q. rw (← q, e, d, count_same g f r (λ i a. k i (λ b. absurd (omega arith)))) (omega arith))
    (λ q. rw (k n (λ b. q (sym b)), count_more f g n r (omega arith) e d k) (omega arith))

-- Sums over a list, by number

abbrev pub total_from : {A : Type 0} → (ℕ → ℕ) → ℕ → List A → ℕ
total_from g i [] = 0
total_from g i (x ∷ xs) = g i + total_from g (suc i) xs

module _ {A : Type 0} where
  pub total_most : (g : ℕ → ℕ) (f : A → ℕ) (d : A) (i : ℕ) (xs : List A) → ((k : ℕ) → k < length xs → g (i + k) ≤ f (get d xs k)) → total_from g i xs ≤ sum_of f xs
  unfolding sum_of
  total_most g f d i [] h = omega arith
  total_most g f d i (x ∷ xs) h =
      let z : i + 0 ≡ i = omega arith in
      let a : g i ≤ f x = rw z at (h 0 (omega arith)) in
      omega (arith, a, total_most g f d (suc i) xs (λ k b. let e : i + suc k ≡ suc i + k = omega arith in rw e at (h (suc k) (omega arith))))

  pub total_grows : (g g' : ℕ → ℕ) (i : ℕ) (xs : List A) → ((s : ℕ) → g s ≤ g' s) → total_from g i xs ≤ total_from g' i xs
  total_grows g g' i [] h = omega arith
  total_grows g g' i (x ∷ xs) h = omega (arith, h i, total_grows g g' (suc i) xs h)

  -- one term is larger
  pub total_more : (g g' : ℕ → ℕ) (i t : ℕ) (xs : List A) → ((s : ℕ) → g s ≤ g' s) → i ≤ t → t < i + length xs → g t < g' t → total_from g i xs < total_from g' i xs
  total_more g g' i t [] h a b c = absurd (omega arith)
  total_more g g' i t (x ∷ xs) h a b c = by_eq t i (λ q. omega (arith, total_grows g g' (suc i) xs h, rw q at c))
      (λ q. omega (arith, h i, total_more g g' (suc i) t xs h (omega arith) (omega arith) c))

-- Lists of different numbers

unfoldable minus : ℕ → List ℕ → List ℕ
minus x [] = []
minus x (y ∷ ys) = elim (eqb x y) [ true ↦ ys | false ↦ y ∷ minus x ys ]

minus_length : (x : ℕ) (ys : List ℕ) → has x ys ≡ true → length ys ≡ suc (length (minus x ys))
unfolding minus has
minus_length x [] e = clash (cc)
minus_length x (y ∷ ys) e = by_bool (eqb x y) (λ h. rw (h, minus)) (λ h. rw (h, minus) (ap suc (minus_length x ys (rw h at e))))

minus_has : (x z : ℕ) (ys : List ℕ) → z ≢ x → has z ys ≡ true → has z (minus x ys) ≡ true
unfolding minus has
minus_has x z [] n e = clash (cc)
minus_has x z (y ∷ ys) n e = by_bool (eqb x y)
    (λ h. rw (h, minus) (either (or-true (eqb z y) (has z ys) e) (λ q. absurd (n (eqb-true z y q ∙ sym (eqb-true x y h)))) (λ q. q)))
    (λ h. rw (h, minus) (either (or-true (eqb z y) (has z ys) e) (λ q. or_inl (eqb z y) (has z (minus x ys)) q) (λ q. or_inr (eqb z y) (has z (minus x ys)) (minus_has x z ys n q))))

-- different numbers of a list are no more than it has
pub differ_most : (xs ys : List ℕ) → Differ xs → ((x : ℕ) → has x xs ≡ true → has x ys ≡ true) → length xs ≤ length ys
unfolding has
differ_most [] ys d h = omega arith
differ_most (x ∷ xs) ys d h =
    let a : has x ys ≡ true = h x (or_inl (eqb x x) (has x xs) (eq-eqb x x refl)) in
    let ih : length xs ≤ length (minus x ys) = differ_most xs (minus x ys) d.1
    (λ z b. minus_has x z ys (λ q. clash (cc d.0)) (h z (or_inr (eqb z x) (has z xs) b))) in
    omega (arith, minus_length x ys a)

-- The number of kept rows

pub length-map : {A B : Type 0} (f : A → B) (xs : List A) → length (map f xs) ≡ length xs
length-map f [] = refl
length-map f (x ∷ xs) = ap suc (length-map f xs)

kept_length_of : (j : Job) (s : Split) (rs : List Run) → length (flat_map (λ r. map (row_of j (root_of j)) (positions s r)) rs) ≡ sum_of (λ (r : Run). r.size) rs
unfolding flat_map sum_of
kept_length_of j s [] = refl
kept_length_of j s (r ∷ rs) =
    length-append (map (row_of j (root_of j)) (positions s r)) (flat_map (λ q. map (row_of j (root_of j)) (positions s q)) rs)
    ∙ rw (length-map (row_of j (root_of j)) (positions s r), up_length (s.start + r.start) r.size, kept_length_of j s rs)

pub kept_length : (j : Job) (s : ℕ) → length (kept_rows j s) ≡ sum_of (λ (r : Run). r.size) (split_of j s).runs
unfolding kept_rows
kept_length j s = kept_length_of j (split_of j s) (split_of j s).runs

-- rows of each split, at most those kept, add up to no more than K
pub rows_most : (j : Job) (g : ℕ → ℕ) → ((s : ℕ) → g s ≤ length (kept_rows j s)) → total_from g 0 j.splits ≤ row_count j
rows_most j g h = total_most g (λ (s : Split). sum_of (λ (r : Run). r.size) s.runs) no_split 0 j.splits
    (λ k b. let z : 0 + k ≡ k = omega arith in rw z (rw (kept_length j k) at (h k)))

-- different numbers in a list made by number
pub differ_upto : (f : ℕ → ℕ) (i n : ℕ) → ((r q : ℕ) → i ≤ r → r < q → q < i + n → f r ≢ f q) → Differ (map f (up_from i n))
unfolding up_from
differ_upto f i zero h = tt
differ_upto f i (suc n) h = (
  by_bool (has (f i) (map f (up_from (suc i) n)))
      (λ e. let r = map_has f (up_from (suc i) n) (f i) e in let b = up_has (suc i) n r.0 r.1 in absurd (h i r.0 (omega arith) (omega (arith, b.0)) (omega (arith, b.1)) r.2))
      (λ e. e),
  differ_upto f (suc i) n (λ r q a b c. h r q (omega arith) b (omega arith)),
)

-- different segments, by their first leaves, are no more than D
pub segments_most : (j : Job) (f : ℕ → ℕ) (n : ℕ) → ((r : ℕ) → r < n → (is_leaf j (f r) ≡ true) × (first_leaf j (f r) ≡ f r)) → ((r q : ℕ) → r < n → q < n → f r ≡ f q → r ≡ q) → n ≤ segment_count j
segments_most j f n h d =
    let a : length (map f (up_from 0 n)) ≤ segment_count j = differ_most (map f (up_from 0 n)) (filter (λ l. eqb (first_leaf j l) l) (leaves j))
    (differ_upto f 0 n (λ r q x y z e. let i : r ≡ q = d r q (omega arith) (omega arith) e in absurd (omega arith)))
    (λ l e. let r = map_has f (up_from 0 n) l e in let b = up_has 0 n r.0 r.1 in let g = h r.0 (omega (arith, b.1)) in
    rw (filter_has (λ i. eqb (first_leaf j i) i) (leaves j) l, r.2, leaf_has j (f r.0) g.0) (eq-eqb (first_leaf j (f r.0)) (f r.0) g.1)) in
    let z : length (map f (up_from 0 n)) ≡ n = length-map f (up_from 0 n) ∙ up_length 0 n in
    omega arith
