-- Entries of a list: the one of a list of one, and the first.
use Rattle.std.specs.Prelude.{ℕ, zero, suc, ◌<◌, ◌≡◌, refl, List, [], ◌∷◌, length}
use Rattle.std.proofs.Common.{arith, ap}
use Rattle.std.proofs.Math.Option.{none, some}
use Rattle.std.proofs.Math.ListN.{get_elem?}
use Rattle.rules.specs.Table.{get}

module _ {A : Type 0} (d : A) where
  -- the one entry of a list of one
  pub only : (x : A) (xs : List A) (k : ℕ) → xs ≡ x ∷ [] → k < length xs → x ≡ get d xs k
  only x xs zero e h = rw e
  only x xs (suc k) e h = let w : length xs ≡ 1 = ap length e in absurd (omega arith)

  -- the first of some
  pub first_some : (x : A) (xs : List A) → 0 < length xs → x ≡ get d xs 0 → some x ≡ get_elem? xs 0
  first_some x [] h e = absurd (omega arith)
  first_some x (y ∷ xs) h e = ap some e

  -- the first of none
  pub first_none : (xs : List A) → length xs ≡ 0 → none ≡ get_elem? xs 0
  first_none [] e = refl
  first_none (y ∷ xs) e = absurd (omega arith)
