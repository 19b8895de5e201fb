-- Tables and lists. A table is a list that is read and written at any number: what was never written reads as the default, so that
-- no law asks for a bound.
use Rattle.std.specs.Prelude.{Bool, true, false, ◌||◌, ◌&&◌, List, [], ◌∷◌, ℕ, zero, suc, ◌+◌, eqb}
use Rattle.std.proofs.Math.Option.{Option, none, some}

module _ {A : Type 0} where
  -- the entry at a number
  abbrev pub get : A → List A → ℕ → A
  get d [] n = d
  get d (x ∷ xs) zero = x
  get d (x ∷ xs) (suc n) = get d xs n

  -- the table with another entry at a number
  abbrev pub put : A → List A → ℕ → A → List A
  put d [] zero v = v ∷ []
  put d [] (suc n) v = d ∷ put d [] n v
  put d (x ∷ xs) zero v = v ∷ xs
  put d (x ∷ xs) (suc n) v = x ∷ put d xs n v

  unfoldable pub filter : (A → Bool) → List A → List A
  filter f [] = []
  filter f (x ∷ xs) = elim (f x) [ true ↦ x ∷ filter f xs | false ↦ filter f xs ]

  -- the first that passes a test
  unfoldable pub find : (A → Bool) → List A → Option A
  find f [] = none
  find f (x ∷ xs) = elim (f x) [ true ↦ some x | false ↦ find f xs ]

  unfoldable pub any : (A → Bool) → List A → Bool
  any f [] = false
  any f (x ∷ xs) = f x || any f xs

  unfoldable pub all : (A → Bool) → List A → Bool
  all f [] = true
  all f (x ∷ xs) = f x && all f xs

  -- every entry, with its number, passes a test
  unfoldable pub each : (ℕ → A → Bool) → ℕ → List A → Bool
  each f i [] = true
  each f i (x ∷ xs) = f i x && each f (suc i) xs

  unfoldable pub sum_of : (A → ℕ) → List A → ℕ
  sum_of f [] = 0
  sum_of f (x ∷ xs) = f x + sum_of f xs

  unfoldable pub is_empty : List A → Bool
  is_empty [] = true
  is_empty (x ∷ xs) = false

  unfoldable pub given : Option A → Bool
  given none = false
  given (some x) = true

-- n numbers from i on
unfoldable pub up_from : ℕ → ℕ → List ℕ
up_from i zero = []
up_from i (suc n) = i ∷ up_from (suc i) n

unfoldable pub has : ℕ → List ℕ → Bool
has n [] = false
has n (x ∷ xs) = eqb n x || has n xs

-- an optional number is this one
unfoldable pub is_some : ℕ → Option ℕ → Bool
is_some n none = false
is_some n (some x) = eqb n x
