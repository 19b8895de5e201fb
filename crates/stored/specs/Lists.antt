-- Lists backwards, and tests over lists.
use Rattle.std.specs.Prelude.{◌≡◌, Bool, false, not, ℕ, zero, suc, ◌+◌, ◌<◌, ◌≤◌, length, eqb}
use Rattle.std.proofs.Math.Path.{refl}
use mathlib.Core.List.{List, [], ◌∷◌, map, reverse, reverse_aux}
use Rattle.std.proofs.Common.{arith, eqb-true, eq-eqb}
use Rattle.std.proofs.lemmas.Bool.{not-false}
use Rattle.rules.specs.Table.{get, any, sum_of, up_from}
use Rattle.laws.specs.Table.{by_eq, or_left, or_right}
use Rattle.laws.specs.Rows.{All}

-- what holds of the members of both lists holds of those of one put backwards before the other
all_onto : (P : ℕ → Type 0) (l r : List ℕ) → All P l → All P r → All P (reverse_aux l r)
all_onto P [] r p q = q
all_onto P (x ∷ l) r p q = all_onto P l (x ∷ r) p.1 (p.0, q)

-- so it holds backwards
pub all_reverse : (P : ℕ → Type 0) (l : List ℕ) → All P l → All P (reverse l)
all_reverse P l p = all_onto P l [] p tt

-- the other way
all_off : (P : ℕ → Type 0) (l r : List ℕ) → All P (reverse_aux l r) → All P l × All P r
all_off P [] r p = (tt, p)
all_off P (x ∷ l) r p = let w = all_off P l (x ∷ r) p in ((w.1.0, w.0), w.1.1)

-- what holds backwards holds
pub reverse_all : (P : ℕ → Type 0) (l : List ℕ) → All P (reverse l) → All P l
reverse_all P l p = (all_off P l [] p).0

-- a sum over both
sum_onto : (f : ℕ → ℕ) (l r : List ℕ) → sum_of f (reverse_aux l r) ≡ sum_of f l + sum_of f r
unfolding sum_of
sum_onto f [] r = omega arith
sum_onto f (x ∷ l) r = omega (arith, sum_onto f l (x ∷ r))

-- so a sum backwards is the same
pub sum_reverse : (f : ℕ → ℕ) (l : List ℕ) → sum_of f (reverse l) ≡ sum_of f l
unfolding sum_of
sum_reverse f l = omega (arith, sum_onto f l [])

module _ {A : Type 0} (f : A → ℕ) (g : ℕ → A) (v : ℕ) where
  -- entries that are all one number: none is another
  pub none_other : (cs : List ℕ) → All (λ c. f (g c) ≡ v) cs → any (λ y. not (eqb (f y) v)) (map g cs) ≡ false
  unfolding any
  none_other [] h = refl
  none_other (c ∷ cs) h = rw (eq-eqb (f (g c)) v h.0) (none_other cs h.1)

  -- the other way
  pub other_none : (cs : List ℕ) → any (λ y. not (eqb (f y) v)) (map g cs) ≡ false → All (λ c. f (g c) ≡ v) cs
  unfolding any
  other_none [] h = tt
  other_none (c ∷ cs) h = (eqb-true (f (g c)) v (not-false _ (or_left _ _ h)), other_none cs (or_right (not (eqb (f (g c)) v)) _ h))

-- no number from i on passes a test that none passes
pub up_none : (f : ℕ → Bool) (i n k : ℕ) → any f (up_from i n) ≡ false → i ≤ k → k < i + n → f k ≡ false
unfolding any up_from
up_none f i zero k h p q = absurd (omega arith)
up_none f i (suc n) k h p q = by_eq k i (λ e. rw e (or_left (f i) _ h)) (λ e. up_none f (suc i) n k (or_right (f i) _ h) (omega arith) (omega arith))

-- the other way
pub none_up : (f : ℕ → Bool) (i n : ℕ) → ((k : ℕ) → i ≤ k → k < i + n → f k ≡ false) → any f (up_from i n) ≡ false
unfolding any up_from
none_up f i zero h = refl
none_up f i (suc n) h = rw (h i (omega arith) (omega arith)) (none_up f (suc i) n (λ k p q. h k (omega arith) (omega arith)))

-- a test that no entry passes
pub none_any : {A : Type 0} (f : A → Bool) (d : A) (l : List A) → ((k : ℕ) → k < length l → f (get d l k) ≡ false) → any f l ≡ false
unfolding any
none_any f d [] h = refl
none_any f d (x ∷ l) h = rw (h 0 (omega arith)) (none_any f d l (λ k p. h (suc k) (omega arith)))
