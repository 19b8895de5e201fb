-- A list read from its end: the first n of it, the newest first.
use Rattle.std.specs.Prelude.{◌≡◌, refl, List, [], ◌∷◌, ℕ, zero, suc, ◌-◌, ◌≤◌, ◌<◌, length, get_or, set, drop}
use Rattle.std.proofs.Common.{ap, not-suc-le-zero, arith, get_or-set_same, get_or-set_other}

-- the first n of a list, the last of them first
unfoldable pub newest : List ℕ → ℕ → List ℕ
newest l zero = []
newest l (suc n) = get_or l n 0 ∷ newest l n

pub newest_length : (l : List ℕ) (n : ℕ) → length (newest l n) ≡ n
unfolding newest
newest_length l zero = refl
newest_length l (suc n) = ap suc (newest_length l n)

-- a store past what counts
pub newest_set : (l : List ℕ) (n k v : ℕ) → n ≤ k → newest (set l k v) n ≡ newest l n
unfolding newest
newest_set l zero k v h = refl
newest_set l (suc n) k v h = rw (get_or-set_other l k n v 0 (λ e. omega arith), newest_set l n k v (omega arith))

-- the newest of all, and the others
pub newest_none : (l : List ℕ) (n : ℕ) → n ≡ 0 → newest l n ≡ []
unfolding newest
newest_none l n e = rw e

pub newest_some : (l : List ℕ) (n : ℕ) → 0 < n → newest l n ≡ get_or l (n - 1) 0 ∷ newest l (n - 1)
unfolding newest
newest_some l zero h = absurd (not-suc-le-zero h)
newest_some l (suc n) h = let p : suc n - 1 ≡ n = omega arith in rw p

pub newest_rest : (l : List ℕ) (n : ℕ) → newest l (n - 1) ≡ drop 1 (newest l n)
unfolding newest
newest_rest l zero = refl
newest_rest l (suc n) = let p : suc n - 1 ≡ n = omega arith in rw p

-- one more
pub newest_more : (l : List ℕ) (n v : ℕ) → n < length l → newest (set l n v) (suc n) ≡ v ∷ newest l n
unfolding newest
newest_more l n v h = rw (get_or-set_same l n v 0 h, newest_set l n n v (omega arith))
