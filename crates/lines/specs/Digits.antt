-- A number's digits, written from the last to the first.
use Rattle.std.specs.Prelude.{◌≡◌, refl, List, [], ◌∷◌, ℕ, zero, suc, ◌+◌, ◌*◌, ◌-◌, ◌/◌, ◌%◌, ◌≤◌, ◌<◌, length, set, take, drop}
use Rattle.std.proofs.Common.{arith, lt-ltb, le-ltb}
use borrow.Author.Rules.{part_to_end}
use Rattle.rules.specs.Session.{digits}

-- numbers of so many digits are below this
unfoldable pub below : ℕ → ℕ
below zero = 1
below (suc n) = 10 * below n

-- one digit fewer
pub fewer : (from left : ℕ) → 1 ≤ from → left < below from → 10 ≤ left → (2 ≤ from) × (left / 10 < below (from - 1))
unfolding below
fewer zero left a h k = absurd (omega arith)
fewer (suc zero) left a h k = absurd (omega arith)
fewer (suc (suc f)) left a h k = (omega arith, (let e : suc (suc f) - 1 ≡ suc f = omega arith in rw e (omega arith)))

drop_set : (l : List ℕ) (f b : ℕ) → f < length l → drop f (set l f b) ≡ b ∷ drop (suc f) l
drop_set [] f b h = absurd (omega arith)
drop_set (x ∷ l) zero b h = refl
drop_set (x ∷ l) (suc f) b h = drop_set l f b (omega arith)

more : (l : List ℕ) (f left b : ℕ) → f < length l → 10 ≤ left → b ≡ 48 + left % 10
    → digits (suc f) left (drop (suc f) l) ≡ digits f (left / 10) (drop f (set l f b))
unfolding digits
more l f left b h k e = rw (drop_set l f b, e, le-ltb left 10, digits)

last : (l : List ℕ) (f left b : ℕ) → f < length l → left < 10 → b ≡ 48 + left
    → digits (suc f) left (drop (suc f) l) ≡ drop f (set l f b)
unfolding digits
last l f left b h k e = rw (drop_set l f b, e, lt-ltb left 10, digits)

-- the digit before those that are there
pub digit_more : (l : List ℕ) (from left b : ℕ) → 1 ≤ from → from ≤ length l → 10 ≤ left → b ≡ 48 + left % 10
    → digits from left (drop from l) ≡ digits (from - 1) (left / 10) (drop (from - 1) (set l (from - 1) b))
digit_more l zero left b a h k e = absurd (omega arith)
digit_more l (suc f) left b a h k e = let p : suc f - 1 ≡ f = omega arith in rw p (more l f left b (omega arith) k e)

-- the first digit
pub digit_last : (l : List ℕ) (from left b : ℕ) → 1 ≤ from → from ≤ length l → left < 10 → b ≡ 48 + left
    → digits from left (drop from l) ≡ drop (from - 1) (set l (from - 1) b)
digit_last l zero left b a h k e = absurd (omega arith)
digit_last l (suc f) left b a h k e = let p : suc f - 1 ≡ f = omega arith in rw p (last l f left b (omega arith) k e)

-- all of a list of n from a on
pub from_on : (l : List ℕ) (a n : ℕ) → length l ≡ n → take (n - a) (drop a l) ≡ drop a l
from_on l a n e = rw (← e) (part_to_end l a)
