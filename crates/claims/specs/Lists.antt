-- What passes a test, of lists in a row and of numbers in a row.
use Rattle.std.specs.Prelude.{◌≡◌, Bool, true, false, ◌&&◌, ℕ, zero, suc, ◌+◌, ◌≤◌, ◌<◌}
use Rattle.std.proofs.Math.Path.{refl}
use mathlib.Core.List.{List, [], ◌∷◌, ◌++◌, flat_map}
use Rattle.std.proofs.Math.Option.{some}
use Rattle.std.proofs.Common.{arith}
use Rattle.rules.specs.Table.{filter, find, up_from}
use Rattle.laws.specs.Table.{by_bool}

module _ {A : Type 0} (f : A → Bool) where
  pub filter_yes : (x : A) (xs : List A) → f x ≡ true → filter f (x ∷ xs) ≡ x ∷ filter f xs
  unfolding filter
  filter_yes x xs e = rw (e, filter)

  pub filter_no : (x : A) (xs : List A) → f x ≡ false → filter f (x ∷ xs) ≡ filter f xs
  unfolding filter
  filter_no x xs e = rw (e, filter)

  pub filter_append : (xs ys : List A) → filter f (xs ++ ys) ≡ filter f xs ++ filter f ys
  unfolding filter
  filter_append [] ys = refl
  filter_append (x ∷ xs) ys = by_bool (f x)
      (λ e. rw (filter_yes x (xs ++ ys) e, filter_yes x xs e, filter_append xs ys))
      (λ e. rw (filter_no x (xs ++ ys) e, filter_no x xs e, filter_append xs ys))

  pub find_yes : (x : A) (xs : List A) → f x ≡ true → find f (x ∷ xs) ≡ some x
  unfolding find
  find_yes x xs e = rw (e, find)

  pub find_no : (x : A) (xs : List A) → f x ≡ false → find f (x ∷ xs) ≡ find f xs
  unfolding find
  find_no x xs e = rw (e, find)

-- the first of those that pass one test to pass another
pub find_filter : {A : Type 0} (f g : A → Bool) (xs : List A) → find g (filter f xs) ≡ find (λ x. f x && g x) xs
unfolding filter find
find_filter f g [] = refl
find_filter f g (x ∷ xs) = by_bool (f x)
    (λ e. by_bool (g x) (λ d. rw (filter_yes f x xs e, find_yes g x (filter f xs) d, find_yes (λ y. f y && g y) x xs (rw (e, d) refl)))
    (λ d. rw (filter_yes f x xs e, find_no g x (filter f xs) d, find_no (λ y. f y && g y) x xs (rw (e, d) refl)) (find_filter f g xs)))
    (λ e. rw (filter_no f x xs e, find_no (λ y. f y && g y) x xs (rw e refl)) (find_filter f g xs))

-- none of some numbers in a row passes
pub none_up : (f : ℕ → Bool) (i n : ℕ) → ((k : ℕ) → i ≤ k → k < i + n → f k ≡ false) → filter f (up_from i n) ≡ []
unfolding filter up_from
none_up f i zero h = refl
none_up f i (suc n) h = rw (filter_no f i (up_from (suc i) n) (h i (omega arith) (omega arith))) (none_up f (suc i) n (λ k a b. h k (omega arith) (omega arith)))

-- two rows of numbers, one behind the other
pub up_append : (x m n : ℕ) → up_from x m ++ up_from (x + m) n ≡ up_from x (m + n)
unfolding up_from
up_append x zero n = let e : x + 0 ≡ x = omega arith in let d : 0 + n ≡ n = omega arith in rw (e, d)
up_append x (suc m) n =
    let e : x + suc m ≡ suc x + m = omega arith in
    let d : suc m + n ≡ suc (m + n) = omega arith in
    rw (e, d, up_append (suc x) m n)

pub up_cons : (i n : ℕ) → up_from i (suc n) ≡ i ∷ up_from (suc i) n
unfolding up_from
up_cons i n = refl

pub flat_cons : {B : Type 0} (f : ℕ → List B) (x : ℕ) (xs : List ℕ) → flat_map f (x ∷ xs) ≡ f x ++ flat_map f xs
unfolding flat_map
flat_cons f x xs = refl
