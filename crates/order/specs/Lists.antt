-- Members and entries of lists.
use Rattle.std.specs.Prelude.{◌≡◌, refl, Bool, true, ℕ, zero, suc, ◌+◌, ◌<◌, ◌≤◌, length, drop, eqb}
use Rattle.std.proofs.Common.{sym, ap, arith, eqb-true}
use mathlib.Core.List.{List, [], ◌∷◌, ◌++◌, map, flat_map}
use Rattle.rules.specs.Table.{has, filter, up_from}
use Rattle.laws.specs.Table.{by_bool, by_eq, clash}
use Rattle.laws.specs.Rising.{has_head}
use Rattle.order.specs.Inv.{At}

pub has_later : (x y : ℕ) (xs : List ℕ) → has x xs ≡ true → has x (y ∷ xs) ≡ true
unfolding has
has_later x y xs e = rw e (by_bool (eqb x y) (λ c. rw c) (λ c. rw c))

-- a member is the first, or one of the others
pub by_has {ℓ} : {C : Type ℓ} (x y : ℕ) (xs : List ℕ) → has x (y ∷ xs) ≡ true → (x ≡ y → C) → (has x xs ≡ true → C) → C
unfolding has
by_has x y xs e f g = by_bool (eqb x y) (λ c. f (eqb-true x y c)) (λ c. g (rw c at e))

-- what equals the first is a member
has_first : (x z : ℕ) (xs : List ℕ) → x ≡ z → has x (z ∷ xs) ≡ true
has_first x z xs i = rw i (has_head z xs)

pub has_left : (x : ℕ) (xs ys : List ℕ) → has x xs ≡ true → has x (xs ++ ys) ≡ true
unfolding has
has_left x [] ys e = clash (cc)
has_left x (z ∷ xs) ys e = by_has x z xs e (λ i. has_first x z (xs ++ ys) i) (λ h. has_later x z (xs ++ ys) (has_left x xs ys h))

pub has_right : (x : ℕ) (xs ys : List ℕ) → has x ys ≡ true → has x (xs ++ ys) ≡ true
has_right x [] ys e = e
has_right x (z ∷ xs) ys e = has_later x z (xs ++ ys) (has_right x xs ys e)

pub has_map : (f : ℕ → ℕ) (xs : List ℕ) (x : ℕ) → has x xs ≡ true → has (f x) (map f xs) ≡ true
unfolding has
has_map f [] x e = clash (cc)
has_map f (z ∷ xs) x e = by_has x z xs e (λ i. has_first (f x) (f z) (map f xs) (ap f i)) (λ h. has_later (f x) (f z) (map f xs) (has_map f xs x h))

pub has_flat : (f : ℕ → List ℕ) (xs : List ℕ) (x y : ℕ) → has x xs ≡ true → has y (f x) ≡ true → has y (flat_map f xs) ≡ true
unfolding has flat_map
has_flat f [] x y e h = clash (cc)
has_flat f (z ∷ xs) x y e h = by_has x z xs e (λ i. has_left y (f z) (flat_map f xs) (rw i at h)) (λ k. has_right y (f z) (flat_map f xs) (has_flat f xs x y k h))

pub has_filter : (f : ℕ → Bool) (xs : List ℕ) (x : ℕ) → has x xs ≡ true → f x ≡ true → has x (filter f xs) ≡ true
unfolding has filter
has_filter f [] x e h = clash (cc)
has_filter f (z ∷ xs) x e h = by_has x z xs e
    (λ i. let c : f z ≡ true = rw i at h in rw (c, filter) (has_first x z (filter f xs) i))
    (λ k. let ih : has x (filter f xs) ≡ true = has_filter f xs x k h in by_bool (f z) (λ c. rw (c, filter) (has_later x z (filter f xs) ih)) (λ c. rw (c, filter) ih))

-- numbers in a row
pub has_up : (i n k : ℕ) → i ≤ k → k < i + n → has k (up_from i n) ≡ true
unfolding up_from
has_up i zero k h l = absurd (omega arith)
has_up i (suc n) k h l = by_eq k i (λ e. rw e (has_head i (up_from (suc i) n))) (λ d. has_later k i (up_from (suc i) n) (has_up (suc i) n k (omega arith) (omega arith)))

-- entries of a list, as members
pub at_has : (xs : List ℕ) (i x : ℕ) → At xs i x → has x xs ≡ true
at_has [] i x a = absurd a
at_has (y ∷ xs) zero x a = rw a (has_head x xs)
at_has (y ∷ xs) (suc i) x a = has_later x y xs (at_has xs i x a)

pub has_at : (xs : List ℕ) (x : ℕ) → has x xs ≡ true → (i : ℕ) × At xs i x
unfolding has
has_at [] x e = clash (cc)
has_at (y ∷ xs) x e = by_has x y xs e (λ i. (0, sym i)) (λ h. let a = has_at xs x h in (suc a.0, a.1))

-- an entry behind the first n
pub at_drop : (n : ℕ) (xs : List ℕ) (i y : ℕ) → At (drop n xs) i y → (h : ℕ) × At xs h y
at_drop zero xs i y a = (i, a)
at_drop (suc n) [] i y a = absurd a
at_drop (suc n) (x ∷ xs) i y a = let r : (h : ℕ) × At xs h y = at_drop n xs i y a in (suc r.0, r.1)

pub up_length : (i n : ℕ) → length (up_from i n) ≡ n
unfolding up_from
up_length i zero = refl
up_length i (suc n) = ap suc (up_length (suc i) n)

pub nil_right : {A : Type 0} (a c : List A) → a ++ c ≡ [] → c ≡ []
nil_right [] c e = e
nil_right (r ∷ rs) c e = clash (cc)

-- and no others
pub up_has : (i n k : ℕ) → has k (up_from i n) ≡ true → (i ≤ k) × (k < i + n)
unfolding has up_from
up_has i zero k e = clash (cc)
up_has i (suc n) k e = by_has k i (up_from (suc i) n) e (λ q. (omega arith, omega arith)) (λ h. let r : (suc i ≤ k) × (k < suc i + n) = up_has (suc i) n k h in (omega arith, omega arith))

-- functions that agree at every entry
pub map_same : {A : Type 0} (f g : ℕ → A) (xs : List ℕ) → ((i x : ℕ) → At xs i x → f x ≡ g x) → map f xs ≡ map g xs
map_same f g [] h = refl
map_same f g (x ∷ xs) h = rw (h 0 x refl, map_same f g xs (λ i y a. h (suc i) y a))
