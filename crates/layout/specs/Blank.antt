-- Bytes that are all 0.
use Rattle.std.specs.Prelude.{ℕ, zero, suc, ◌+◌, ◌<◌, ◌≡◌, refl, Bool, true, false, ◌&&◌, List, [], ◌∷◌, ◌++◌, eqb, length, get_or, take}
use Rattle.std.proofs.Common.{add-one, ap, ◌∙◌, take-suc, eqb-true}
use Rattle.std.proofs.lemmas.Bool.{false≢true}
use Rattle.rules.specs.Table.{all}

abbrev pub is_zero : ℕ → Bool
is_zero b = eqb b 0

unfoldable pub blank : List ℕ → Bool
blank l = all is_zero l

and_true : (a : Bool) → (a && true) ≡ a
and_true true = refl
and_true false = refl

and_assoc : (a b c : Bool) → (a && (b && c)) ≡ ((a && b) && c)
and_assoc true b c = refl
and_assoc false b c = refl

-- one byte more, at the end
blank_last : (l : List ℕ) (x : ℕ) → blank (l ++ x ∷ []) ≡ (blank l && is_zero x)
unfolding blank all
blank_last [] x = and_true (is_zero x)
blank_last (y ∷ l) x = ap (λ (t : Bool). is_zero y && t) (blank_last l x) ∙ and_assoc (is_zero y) (all is_zero l) (is_zero x)

pub blank_more : (l : List ℕ) (i : ℕ) → i < length l → blank (take (i + 1) l) ≡ (blank (take i l) && is_zero (get_or l i 0))
blank_more l i h = rw (add-one i, take-suc l i 0 h) (blank_last (take i l) (get_or l i 0))

-- the first is 0, and so are the others
both : (a b : Bool) → (a && b) ≡ true → (a ≡ true) × (b ≡ true)
both true b e = (refl, e)
both false b e = absurd (false≢true e)

-- each of them is 0; past them 0 is read
pub blank_byte : (l : List ℕ) (k : ℕ) → blank l ≡ true → get_or l k 0 ≡ 0
unfolding blank all
blank_byte [] k e = refl
blank_byte (x ∷ l) zero e = eqb-true x 0 (both (is_zero x) (all is_zero l) e).0
blank_byte (x ∷ l) (suc k) e = blank_byte l k (both (is_zero x) (all is_zero l) e).1
