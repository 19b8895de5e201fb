-- Sums over numbers: compared term by term, and bounded.
use Rattle.std.specs.Prelude.{◌≡◌, ◌≢◌, ℕ, zero, suc, ◌+◌, ◌*◌, ◌<◌, ◌≤◌}
use Rattle.std.proofs.Common.{arith}
use Rattle.rules.specs.Table.{sum_of, up_from}
use Rattle.laws.specs.Table.{by_eq}
use Rattle.order.specs.Tally.{sum_same}

-- no term is greater
pub sum_most : (f g : ℕ → ℕ) (a n : ℕ) → ((i : ℕ) → a ≤ i → i < a + n → f i ≤ g i) → sum_of f (up_from a n) ≤ sum_of g (up_from a n)
unfolding sum_of up_from
sum_most f g a zero h = omega arith
sum_most f g a (suc n) h = let t = sum_most f g (suc a) n (λ i l u. h i (omega arith) (omega arith)) in omega (arith, t, h a (omega arith) (omega arith))

-- every term is at most c
pub sum_bound : (f : ℕ → ℕ) (c a n : ℕ) → ((i : ℕ) → a ≤ i → i < a + n → f i ≤ c) → sum_of f (up_from a n) ≤ n * c
unfolding sum_of up_from
sum_bound f c a zero h = omega arith
sum_bound f c a (suc n) h = let t = sum_bound f c (suc a) n (λ i l u. h i (omega arith) (omega arith)) in omega (arith, t, h a (omega arith) (omega arith))

-- no term changed but one, which may stand outside
pub sum_raise : (f g : ℕ → ℕ) (x c n : ℕ) → ((i : ℕ) → i ≢ x → f i ≡ g i) → f x ≤ g x + c → sum_of f (up_from 0 n) ≤ sum_of g (up_from 0 n) + c
unfolding sum_of up_from
sum_raise f g x c n h k = raise f g x c 0 n h k
  where
    raise : (u v : ℕ → ℕ) (y d a b : ℕ) → ((i : ℕ) → i ≢ y → u i ≡ v i) → u y ≤ v y + d → sum_of u (up_from a b) ≤ sum_of v (up_from a b) + d
    raise u v y d a zero s t = omega arith
    raise u v y d a (suc b) s t = by_eq a y
        (λ e. let q = sum_same u v (suc a) b (λ i l w. s i (λ z. omega arith)) in rw e (omega (arith, rw e at q, t)))
        (λ e. omega (arith, s a e, raise u v y d (suc a) b s t))
