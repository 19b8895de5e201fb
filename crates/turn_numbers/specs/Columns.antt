-- Laws of the numbers of an output's columns.
use Rattle.std.specs.Prelude.{◌≡◌, refl, List, [], ◌∷◌, ℕ, zero, suc, min, length, take, get_or}
use Rattle.std.proofs.Common.{sym, arith, suc-ne-zero, length-take}
use Rattle.std.proofs.Math.Nat.{suc_inj}
use Rattle.batches.specs.Cells.{cells_of}
use Rattle.turn_numbers.specs.Numbers.{no_cell, output_numbers}
use Rattle.batches.specs.Cells.{cells_length}

pub segment_of : (ss fs : List ℕ) (i : ℕ) → length ss ≡ length fs → (get_or (cells_of ss fs) i no_cell).segment ≡ get_or ss i 0
unfolding cells_of
segment_of [] fs i e = refl
segment_of (s ∷ ss) [] i e = absurd (suc-ne-zero (length ss) e)
segment_of (s ∷ ss) (f ∷ fs) zero e = refl
segment_of (s ∷ ss) (f ∷ fs) (suc i) e = segment_of ss fs i (suc_inj e)

pub row_of : (ss fs : List ℕ) (i : ℕ) → length ss ≡ length fs → (get_or (cells_of ss fs) i no_cell).row ≡ get_or fs i 0
unfolding cells_of
row_of [] [] i e = refl
row_of [] (f ∷ fs) i e = absurd (suc-ne-zero (length fs) (sym e))
row_of (s ∷ ss) [] i e = absurd (suc-ne-zero (length ss) e)
row_of (s ∷ ss) (f ∷ fs) zero e = refl
row_of (s ∷ ss) (f ∷ fs) (suc i) e = row_of ss fs i (suc_inj e)

-- all of an output
pub output_is : (s s' rows w n a₀ b₀ a₁ b₁ a₂ b₂ a₃ b₃ : ℕ) (ss fs : List ℕ) → length ss ≡ 4 → length fs ≡ 4 → s' ≡ s → n ≡ min w 4
    → a₀ ≡ get_or (take w ss) 0 0 → b₀ ≡ get_or (take w fs) 0 0 → a₁ ≡ get_or (take w ss) 1 0 → b₁ ≡ get_or (take w fs) 1 0
    → a₂ ≡ get_or (take w ss) 2 0 → b₂ ≡ get_or (take w fs) 2 0 → a₃ ≡ get_or (take w ss) 3 0 → b₃ ≡ get_or (take w fs) 3 0
    → 2 ∷ s' ∷ rows ∷ n ∷ a₀ ∷ b₀ ∷ a₁ ∷ b₁ ∷ a₂ ∷ b₂ ∷ a₃ ∷ b₃ ∷ []
    ≡ output_numbers s (record { rows = rows; cells = cells_of (take w ss) (take w fs) })
output_is s s' rows w n a₀ b₀ a₁ b₁ a₂ b₂ a₃ b₃ ss fs k l e c p₀ q₀ p₁ q₁ p₂ q₂ p₃ q₃ =
    let x = take w ss in
    let y = take w fs in
    let z : length x ≡ length y = simp length-take (omega (arith, k, l)) in
    let v : min w 4 ≡ length x = simp length-take (omega (arith, k)) in
    rw (
      e,
      c,
      v,
      p₀,
      q₀,
      p₁,
      q₁,
      p₂,
      q₂,
      p₃,
      q₃,
      cells_length x y z,
      segment_of x y 0 z,
      row_of x y 0 z,
      segment_of x y 1 z,
      row_of x y 1 z,
      segment_of x y 2 z,
      row_of x y 2 z,
      segment_of x y 3 z,
      row_of x y 3 z,
    )
