-- The first n entries of a table: their number, an entry, one more, and what is left from a position on.
use mathlib.Core.Path.{◌≡◌, refl, ap, sym, ◌∙◌}
use mathlib.Core.List.{List, [], ◌∷◌, ◌++◌, map}
use Prim.Native.Nat.{ℕ, zero, suc, ◌+◌, ◌≤◌, ◌<◌, min}
use native.Mathlib.Omega.{arith}
use native.Mathlib.Numerals.{add-one}
use Rattle.std.proofs.lemmas.List.{map-append, map-set}
use lib.ListN.{length, take, drop, get_or, set, length-map, get_or-map, drop_of_length-le}
use native.Mathlib.Decide.{dec_lt}
use lib.Seq.{take_all, length-take-le, take-suc-set, get_or-take, drop-cons, take-set-lt}
use lib.Dec.{eqb}
use borrow.Author.Tests.{ne_eqb}
use Rattle.rules.specs.Table.{get, put, is_empty}
use Rattle.jobs.specs.Job.{front}

module _ {B : Type 0} where
  get_get_or : (d : B) (xs : List B) (n : ℕ) → get d xs n ≡ get_or xs n d
  get_get_or d [] n = refl
  get_get_or d (x ∷ xs) zero = refl
  get_get_or d (x ∷ xs) (suc n) = get_get_or d xs n

  put_set : (d : B) (xs : List B) (n : ℕ) (v : B) → n < length xs → put d xs n v ≡ set xs n v
  put_set d [] n v h = absurd (omega arith)
  put_set d (x ∷ xs) zero v h = refl
  put_set d (x ∷ xs) (suc n) v h = ap (λ (l : List B). x ∷ l) (put_set d xs n v (omega arith))

pub get_d_any : {A : Type 0} (xs : List A) (i : ℕ) (d e : A) → i < length xs → get_or xs i d ≡ get_or xs i e
get_d_any [] i d e h = absurd (omega arith)
get_d_any (x ∷ xs) zero d e h = refl
get_d_any (x ∷ xs) (suc i) d e h = get_d_any xs i d e (omega arith)

module _ {A B : Type 0} (f : A → B) where
  empty_take : (xs : List A) (n : ℕ) → 0 < length xs → is_empty (map f (take n xs)) ≡ eqb n 0
  unfolding is_empty
  empty_take xs zero h = refl
  empty_take [] (suc n) h = absurd (omega arith)
  empty_take (x ∷ xs) (suc n) h = sym (ne_eqb (suc n) 0 (omega arith))

module _ {A B : Type 0} (f : A → B) (xs : List A) where
  pub front_none : front f xs 0 ≡ []
  unfolding front
  front_none = refl

  pub front_length : (n : ℕ) → n ≤ length xs → length (front f xs n) ≡ n
  unfolding front
  front_length n h = length-map (take n xs) f ∙ length-take-le n xs h

  -- one more entry
  pub front_more : (n : ℕ) (a : A) → n < length xs → front f (set xs n a) (n + 1) ≡ front f xs n ++ f a ∷ []
  unfolding front
  front_more n a h = rw (add-one, take-suc-set xs n a h) (map-append f (take n xs) (a ∷ []))

  -- the entry at a place
  pub front_at : (d : A) (e : B) (n i : ℕ) → n ≤ length xs → i < n → get e (front f xs n) i ≡ f (get_or xs i d)
  unfolding front
  front_at d e n i h k =
      get_get_or e (map f (take n xs)) i
      ∙ get_d_any (map f (take n xs)) i e (f d) (rw (length-map (take n xs) f, length-take-le n xs h) k)
      ∙ get_or-map f (take n xs) i d
      ∙ ap f (get_or-take n xs i d k)

  -- another entry at a place
  pub front_put : (e : B) (n i : ℕ) (a : A) → n ≤ length xs → i < n → front f (set xs i a) n ≡ put e (front f xs n) i (f a)
  unfolding front
  front_put e n i a h k =
      ap (map f) (take-set-lt n xs i a k) ∙ map-set f (take n xs) i a
      ∙ sym (put_set e (map f (take n xs)) i (f a) (rw (length-map (take n xs) f, length-take-le n xs h) k))

  -- what is left from a position on
  pub front_cons : (d : A) (n i : ℕ) → n ≤ length xs → i < n → drop i (front f xs n) ≡ f (get_or xs i d) ∷ drop (i + 1) (front f xs n)
  unfolding front
  front_cons d n i h k =
      drop-cons (map f (take n xs)) i (f d) (rw (length-map (take n xs) f, length-take-le n xs h) k)
      ∙ rw (get_or-map f (take n xs) i d, get_or-take n xs i d k, ← add-one i)

  pub front_end : (n i : ℕ) → n ≤ length xs → n ≤ i → drop i (front f xs n) ≡ []
  unfolding front
  front_end n i h k = drop_of_length-le (map f (take n xs)) {i = i} (rw (length-map (take n xs) f, length-take-le n xs h) k)

  -- there are none where n is 0
  pub front_empty : (n : ℕ) → 0 < length xs → is_empty (front f xs n) ≡ eqb n 0
  unfolding front
  front_empty n h = empty_take f xs n h

  min_by : (n top : ℕ) → length xs ≡ top → Dec (top < n) → take n xs ≡ take (min n top) xs
  min_by n top h (yes l) = let e : min n top ≡ top = omega arith in rw (e, take_all n xs (omega arith), take_all top xs (omega arith))
  min_by n top h (no l) = let e : min n top ≡ n = omega arith in rw e

  -- no more than the table has
  pub front_min : (n top : ℕ) → length xs ≡ top → front f xs n ≡ front f xs (min n top)
  unfolding front
  front_min n top h = ap (map f) (min_by n top h (dec_lt top n))
