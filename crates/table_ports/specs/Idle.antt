-- A queue without batches.
use Rattle.std.specs.Prelude.{◌≡◌, eqb, length}
use Rattle.std.proofs.Math.Path.{refl, sym}
use mathlib.Core.List.{List, [], ◌∷◌}
use Rattle.std.proofs.Math.Dec.{eqb-suc-zero}
use Rattle.rules.specs.Table.{is_empty}

module _ {A : Type 0} where
  -- no entries
  pub empty_length : (l : List A) → is_empty l ≡ eqb (length l) 0
  unfolding is_empty
  empty_length [] = refl
  empty_length (x ∷ l) = sym (eqb-suc-zero (length l))
