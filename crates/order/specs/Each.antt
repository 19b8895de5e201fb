-- Tests over lists and tables, as statements about every entry.
use Rattle.std.specs.Prelude.{◌≡◌, Bool, true, false, ◌&&◌, ◌||◌, not, eqb, ltb}
use Rattle.std.proofs.Math.Path.{refl}
use mathlib.Core.List.{List, [], ◌∷◌, ◌++◌, map, flat_map}
use Rattle.std.proofs.Math.Option.{some}
use Prim.Native.Nat.{ℕ, zero, suc, ◌+◌, ◌<◌, ◌≤◌}
use native.Mathlib.Omega.{arith}
use Rattle.std.proofs.Math.ListN.{length}
use Rattle.std.proofs.Common.{ltb-true, lt-ltb, eq-eqb, ne_eqb}
use Rattle.std.proofs.lemmas.Bool.{not-true}
use Rattle.rules.specs.Table.{get, filter, find, any, all, each, has, up_from}
use Rattle.rules.specs.Check.{set_ok}
use Rattle.laws.specs.Table.{by_bool, by_eq, clash, and_left, and_right, and_both}
use Rattle.laws.specs.Rows.{All}
use Rattle.laws.specs.Stored.{both}
use Rattle.order.specs.Inv.{Differ}

-- Tests taken apart

-- three
pub both3 : (a b c : Bool) → a && b && c ≡ true → (a ≡ true) × (b ≡ true) × (c ≡ true)
both3 a b c h = let r : (a ≡ true) × (b ≡ true) = both a b (and_left (a && b) c h) in (r.0, r.1, and_right (a && b) c h)

-- four
pub both4 : (a b c d : Bool) → a && b && c && d ≡ true → (a ≡ true) × (b ≡ true) × (c ≡ true) × (d ≡ true)
both4 a b c d h = let r = both3 a b c (and_left (a && b && c) d h) in (r.0, r.1, r.2, and_right (a && b && c) d h)

-- one of two tests does not hold, so the other does
pub or_rest : (a b : Bool) → a || b ≡ true → a ≡ false → b ≡ true
or_rest true b h e = clash (cc)
or_rest false b h e = h

-- and the other way
pub or_first : (a b : Bool) → (a ≡ false → b ≡ true) → a || b ≡ true
or_first true b h = refl
or_first false b h = h refl

-- neither
pub or_none : (a b : Bool) → a ≡ false → b ≡ false → a || b ≡ false
or_none true b p q = p
or_none false b p q = q

module _ {A : Type 0} where
  -- Every entry of a list

  -- the test over the list, from its entries
  pub all_true : (f : A → Bool) (xs : List A) → All (λ x. f x ≡ true) xs → all f xs ≡ true
  unfolding all
  all_true f [] h = refl
  all_true f (x ∷ xs) h = and_both (f x) (all f xs) h.0 (all_true f xs h.1)

  -- and its entries, from the test
  pub true_all : (f : A → Bool) (xs : List A) → all f xs ≡ true → All (λ x. f x ≡ true) xs
  unfolding all
  true_all f [] h = tt
  true_all f (x ∷ xs) h = (and_left (f x) (all f xs) h, true_all f xs (and_right (f x) (all f xs) h))

  -- Some entry of a list

  -- one that passes
  pub any_here : (f : A → Bool) (d : A) (xs : List A) (i : ℕ) → i < length xs → f (get d xs i) ≡ true → any f xs ≡ true
  unfolding any
  any_here f d [] i h e = absurd (omega arith)
  any_here f d (x ∷ xs) zero h e = rw e
  any_here f d (x ∷ xs) (suc i) h e = or_first (f x) (any f xs) (λ _. any_here f d xs i (omega arith) e)

  pub any_some : (f : A → Bool) (d : A) (xs : List A) → any f xs ≡ true → (i : ℕ) × (i < length xs) × (f (get d xs i) ≡ true)
  unfolding any
  any_some f d [] e = clash (cc)
  any_some f d (x ∷ xs) e = by_bool (f x) (λ h. (0, omega arith, h))
      (λ h. let r : (i : ℕ) × (i < length xs) × (f (get d xs i) ≡ true) = any_some f d xs (rw h at e) in (suc r.0, omega (arith, r.1), r.2))

  -- and none that does
  pub any_none : (f : A → Bool) (d : A) (xs : List A) → ((i : ℕ) → i < length xs → f (get d xs i) ≡ false) → any f xs ≡ false
  unfolding any
  any_none f d [] h = refl
  any_none f d (x ∷ xs) h = or_none (f x) (any f xs) (h 0 (omega arith)) (any_none f d xs (λ i g. h (suc i) (omega arith)))

  -- from each entry by its number
  pub All-each : (P : A → Type 0) (d : A) (xs : List A) → ((i : ℕ) → i < length xs → P (get d xs i)) → All P xs
  All-each P d [] h = tt
  All-each P d (x ∷ xs) h = (h 0 (omega arith), All-each P d xs (λ i k. h (suc i) (omega arith)))

  -- what holds of anything
  pub All-any : (P : A → Type 0) (xs : List A) → ((x : A) → P x) → All P xs
  All-any P [] h = tt
  All-any P (x ∷ xs) h = (h x, All-any P xs h)

  -- what a filter leaves, and what it keeps
  pub All-filter : (P : A → Type 0) (f : A → Bool) (xs : List A) → All P xs → All P (filter f xs)
  unfolding filter
  All-filter P f [] h = tt
  All-filter P f (x ∷ xs) h = by_bool (f x) (λ e. rw (e, filter) (h.0, All-filter P f xs h.1)) (λ e. rw (e, filter) (All-filter P f xs h.1))

  -- what it keeps passes the test
  pub All-kept : (f : A → Bool) (xs : List A) → All (λ x. f x ≡ true) (filter f xs)
  unfolding filter
  All-kept f [] = tt
  All-kept f (x ∷ xs) = by_bool (f x) (λ e. rw (e, filter) (e, All-kept f xs)) (λ e. rw (e, filter) (All-kept f xs))

  -- both
  pub All-both : (P : A → Type 0) (f : A → Bool) (xs : List A) → All P xs → All (λ x. P x × (f x ≡ true)) (filter f xs)
  unfolding filter
  All-both P f [] h = tt
  All-both P f (x ∷ xs) h = by_bool (f x) (λ e. rw (e, filter) ((h.0, e), All-both P f xs h.1)) (λ e. rw (e, filter) (All-both P f xs h.1))

  -- the first that passes a test
  pub All-find : (P : A → Type 0) (f : A → Bool) (xs : List A) (x : A) → All P xs → find f xs ≡ some x → P x × (f x ≡ true)
  unfolding find
  All-find P f [] x h e = clash (cc)
  All-find P f (y ∷ ys) x h e = by_bool (f y)
      (λ d. let q : y ≡ x = cc in rw (← q) (h.0, d))
      (λ d. All-find P f ys x h.1 (rw (d, find) at e))

  -- Every entry of a table, with its number

  -- an entry passes, its number counted from i
  pub each_from : (f : ℕ → A → Bool) (d : A) (i k : ℕ) (l : List A) → each f i l ≡ true → k < length l → f (i + k) (get d l k) ≡ true
  unfolding each
  each_from f d i k [] h b = absurd (omega arith)
  each_from f d i zero (x ∷ l) h b = let e : i + 0 ≡ i = omega arith in rw e (and_left (f i x) (each f (suc i) l) h)
  each_from f d i (suc k) (x ∷ l) h b =
      let e : i + suc k ≡ suc i + k = omega arith in rw e (each_from f d (suc i) k l (and_right (f i x) (each f (suc i) l) h) (omega arith))

  -- so does the table, if every entry does
  pub from_each : (f : ℕ → A → Bool) (d : A) (i : ℕ) (l : List A) → ((k : ℕ) → k < length l → f (i + k) (get d l k) ≡ true) → each f i l ≡ true
  unfolding each
  from_each f d i [] h = refl
  from_each f d i (x ∷ l) h =
      let e : i + 0 ≡ i = omega arith in
      and_both (f i x) (each f (suc i) l) (rw e at (h 0 (omega arith)))
      (from_each f d (suc i) l (λ k b. let e : suc i + k ≡ i + suc k = omega arith in rw e (h (suc k) (omega arith))))

  -- the same from 0 on
  pub each_true : (f : ℕ → A → Bool) (d : A) (l : List A) → ((k : ℕ) → k < length l → f k (get d l k) ≡ true) → each f 0 l ≡ true
  each_true f d l h = from_each f d 0 l (λ k b. let e : 0 + k ≡ k = omega arith in rw e (h k b))

  -- and back
  pub true_each : (f : ℕ → A → Bool) (d : A) (l : List A) → each f 0 l ≡ true → (k : ℕ) → k < length l → f k (get d l k) ≡ true
  true_each f d l h k b = let e : 0 + k ≡ k = omega arith in rw e at (each_from f d 0 k l h b)

-- Images

-- what holds of the images
pub All-image : {A B : Type 0} (P : B → Type 0) (f : A → B) (xs : List A) → All (λ x. P (f x)) xs → All P (map f xs)
All-image P f [] h = tt
All-image P f (x ∷ xs) h = (h.0, All-image P f xs h.1)

-- and back
pub All-back : {A B : Type 0} (P : B → Type 0) (f : A → B) (xs : List A) → All P (map f xs) → All (λ x. P (f x)) xs
All-back P f [] h = tt
All-back P f (x ∷ xs) h = (h.0, All-back P f xs h.1)

-- of two lists, one behind the other
pub All-append : {A : Type 0} (P : A → Type 0) (xs ys : List A) → All P xs → All P ys → All P (xs ++ ys)
All-append P [] ys h k = k
All-append P (x ∷ xs) ys h k = (h.0, All-append P xs ys h.1 k)

-- of lists one behind the other
pub All-flat : {A B : Type 0} (P : B → Type 0) (f : A → List B) (xs : List A) → All (λ x. All P (f x)) xs → All P (flat_map f xs)
unfolding flat_map
All-flat P f [] h = tt
All-flat P f (x ∷ xs) h = All-append P (f x) (flat_map f xs) h.0 (All-flat P f xs h.1)

-- Every number below another

-- what holds of each holds of all
pub All-up : (P : ℕ → Type 0) (i n : ℕ) → ((k : ℕ) → i ≤ k → k < i + n → P k) → All P (up_from i n)
unfolding up_from
All-up P i zero h = tt
All-up P i (suc n) h = (h i (omega arith) (omega arith), All-up P (suc i) n (λ k a b. h k (omega arith) (omega arith)))

-- a test of the numbers from i on
pub all_from : (f : ℕ → Bool) (i n : ℕ) → ((k : ℕ) → i ≤ k → k < i + n → f k ≡ true) → all f (up_from i n) ≡ true
unfolding all up_from
all_from f i zero h = refl
all_from f i (suc n) h =
    and_both (f i) (all f (up_from (suc i) n)) (h i (omega arith) (omega arith)) (all_from f (suc i) n (λ k a b. h k (omega arith) (omega arith)))

-- of those below n
pub all_below : (f : ℕ → Bool) (n : ℕ) → ((k : ℕ) → k < n → f k ≡ true) → all f (up_from 0 n) ≡ true
all_below f n h = all_from f 0 n (λ k a b. h k (omega arith))

-- and back
from_all : (f : ℕ → Bool) (i n k : ℕ) → all f (up_from i n) ≡ true → k < n → f (i + k) ≡ true
unfolding all up_from
from_all f i zero k h b = absurd (omega arith)
from_all f i (suc n) zero h b = let e : i + 0 ≡ i = omega arith in rw e (and_left (f i) (all f (up_from (suc i) n)) h)
from_all f i (suc n) (suc k) h b =
    let e : i + suc k ≡ suc i + k = omega arith in rw e (from_all f (suc i) n k (and_right (f i) (all f (up_from (suc i) n)) h) (omega arith))

-- for those below n
pub below_all : (f : ℕ → Bool) (n k : ℕ) → all f (up_from 0 n) ≡ true → k < n → f k ≡ true
below_all f n k h b = let e : 0 + k ≡ k = omega arith in rw e at (from_all f 0 n k h b)

-- Sets of different inlet numbers

-- different numbers below n pass the test
pub set_ok_lem : (n : ℕ) (s : List ℕ) → Differ s → ((i : ℕ) → has i s ≡ true → i < n) → set_ok n s ≡ true
unfolding set_ok has
set_ok_lem n [] u h = refl
set_ok_lem n (i ∷ s) u h =
    rw (lt-ltb i n (h i (rw (eq-eqb i i refl))), u.0)
    (set_ok_lem n s u.1 (λ k e. h k (by_eq k i (λ q. rw (eq-eqb k i q)) (λ d. or_first (eqb k i) (has k s) (λ z. e)))))

-- what passes differs
pub set_differ : (n : ℕ) (s : List ℕ) → set_ok n s ≡ true → Differ s
unfolding set_ok
set_differ n [] h = tt
set_differ n (i ∷ s) h =
    let r = both3 (ltb i n) (not (has i s)) (set_ok n s) h in
    (not-true (has i s) r.1, set_differ n s r.2)

-- and is below n
pub set_below : (n : ℕ) (s : List ℕ) (i : ℕ) → set_ok n s ≡ true → has i s ≡ true → i < n
unfolding set_ok has
set_below n [] i h e = clash (cc)
set_below n (k ∷ s) i h e =
    let r = both3 (ltb k n) (not (has k s)) (set_ok n s) h in
    by_eq i k (λ q. rw q (ltb-true k n r.0)) (λ d. set_below n s i r.2 (or_rest (eqb i k) (has i s) e (ne_eqb i k d)))
