-- The call at a position.
use Rattle.std.specs.Prelude.{◌≡◌, refl, Bool, true, false, List, [], ◌∷◌, ℕ, suc, ◌+◌, ◌≤◌, ◌<◌, length, drop, get_or}
use Rattle.std.proofs.Common.{sym, arith, add-one, length-drop, drop-cons}
use Rattle.std.proofs.Math.Option.{none, some}
use Rattle.std.proofs.Math.Numerals.{add-two}
use Rattle.rules.specs.Job.{is_mark}
use Rattle.rules.specs.Session.{ST, next_call, delivery_fields}
use Rattle.call_records.specs.Calls.{wanted_at}

-- two bytes at a position
pub two_at : (xs : List ℕ) (at : ℕ) → at + 2 ≤ length xs → drop at xs ≡ get_or xs at 0 ∷ get_or xs (at + 1) 0 ∷ drop (at + 2) xs
two_at xs at h =
    let a : at < length xs = omega arith in
    let b : suc at < length xs = omega arith in
    rw (add-one, add-two, drop-cons xs at 0, drop-cons xs (suc at) 0)

few : (ys : List ℕ) → length ys < 2 → next_call ys ≡ none
unfolding next_call
few [] h = refl
few (a ∷ []) h = refl
few (a ∷ b ∷ ys) h = absurd (omega arith)

pub call_short : (xs : List ℕ) (at : ℕ) → length xs < at + 2 → none ≡ next_call (drop at xs)
call_short xs at h = sym (few (drop at xs) (simp length-drop (omega arith)))

few_wanted : (ys : List ℕ) → length ys < 2 → wanted_at ys ≡ 2
few_wanted [] h = refl
few_wanted (a ∷ []) h = refl
few_wanted (a ∷ b ∷ ys) h = absurd (omega arith)

pub wanted_short : (xs : List ℕ) (at : ℕ) → length xs < at + 2 → 2 ≡ wanted_at (drop at xs)
wanted_short xs at h = sym (few_wanted (drop at xs) (simp length-drop (omega arith)))

-- by the two bytes
module _ (xs : List ℕ) (at : ℕ) (t : Bool) (h : at + 2 ≤ length xs) where
  pub call_step : t ≡ is_mark (get_or xs at 0) (get_or xs (at + 1) 0) (83, 84) → t ≡ true → some (ST, drop (at + 2) xs) ≡ next_call (drop at xs)
  unfolding next_call
  call_step e p = rw (two_at xs at, ← e, p)

  module _ (u : Bool) (e : t ≡ is_mark (get_or xs at 0) (get_or xs (at + 1) 0) (83, 84)) (p : t ≡ false)
      (f : u ≡ is_mark (get_or xs at 0) (get_or xs (at + 1) 0) (68, 76)) where
    pub call_delivery : u ≡ true → next_call (drop at xs) ≡ delivery_fields (drop (at + 2) xs)
    unfolding next_call
    call_delivery q = rw (two_at xs at, ← e, p, ← f, q)

    pub call_none : u ≡ false → none ≡ next_call (drop at xs)
    unfolding next_call
    call_none q = rw (two_at xs at, ← e, p, ← f, q)

  pub wanted_ten : t ≡ is_mark (get_or xs at 0) (get_or xs (at + 1) 0) (68, 76) → t ≡ true → 10 ≡ wanted_at (drop at xs)
  wanted_ten e p = rw (two_at xs at, ← e, p)

  pub wanted_two : t ≡ is_mark (get_or xs at 0) (get_or xs (at + 1) 0) (68, 76) → t ≡ false → 2 ≡ wanted_at (drop at xs)
  wanted_two e p = rw (two_at xs at, ← e, p)
