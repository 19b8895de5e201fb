-- A word at a position of a list: four elements, or none where there are fewer.
use mathlib.Core.Path.{◌≡◌, refl}
use mathlib.Core.List.{List, [], ◌∷◌}
use mathlib.Core.Option.{none, some}
use Prim.Native.Nat.{ℕ, suc, ◌+◌, ◌≤◌, ◌<◌}
use native.Mathlib.Omega.{arith}
use native.Mathlib.Numerals.{add-one, add-two, add-three, add-four}
use lib.ListN.{length, drop, length-drop}
use lib.Seq.{drop-cons}
use Rattle.rules.specs.Job.{word}
use Rattle.records.specs.Read.{value}

pub word_at : (xs : List ℕ) (at : ℕ) → at + 4 ≤ length xs → word (drop at xs) ≡ some (value xs at, drop (at + 4) xs)
unfolding word
word_at xs at h =
    let a : at < length xs = omega arith in
    let b : suc at < length xs = omega arith in
    let c : suc (suc at) < length xs = omega arith in
    let d : suc (suc (suc at)) < length xs = omega arith in
    rw (add-one, add-two, add-three, add-four, drop-cons xs at 0, drop-cons xs (suc at) 0, drop-cons xs (suc (suc at)) 0, drop-cons xs (suc (suc (suc at))) 0)

few : (ys : List ℕ) → length ys < 4 → word ys ≡ none
unfolding word
few [] h = refl
few (a ∷ []) h = refl
few (a ∷ b ∷ []) h = refl
few (a ∷ b ∷ c ∷ []) h = refl
few (a ∷ b ∷ c ∷ d ∷ ys) h = absurd (omega arith)

pub word_short : (xs : List ℕ) (at : ℕ) → length xs < at + 4 → word (drop at xs) ≡ none
word_short xs at h = few (drop at xs) (simp length-drop (omega arith))
