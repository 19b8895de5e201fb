-- Sums over numbers, one number after another.
use Rattle.std.specs.Prelude.{ℕ, suc, ◌+◌, ◌-◌, ◌≤◌, ◌<◌, ◌≡◌}
use Rattle.std.proofs.Common.{add-one, arith, ap, ◌∙◌}
use Rattle.rules.specs.Table.{sum_of, up_from}

-- one number, then the others
pub sum_next : (f : ℕ → ℕ) (n i c r total : ℕ) → i < n → total ≡ c + sum_of f (up_from i (n - i)) → r ≡ f i →
    total ≡ c + r + sum_of f (up_from (i + 1) (n - (i + 1)))
unfolding sum_of up_from
sum_next f n i c r total h e q =
    let s : n - i ≡ suc (n - suc i) = omega arith in
    let t : total ≡ c + (f i + sum_of f (up_from (suc i) (n - suc i))) = e ∙ ap (λ (k : ℕ). c + sum_of f (up_from i k)) s in
    rw (add-one i, q) (omega arith)

pub sum_end : (f : ℕ → ℕ) (n i c total : ℕ) → n ≤ i → total ≡ c + sum_of f (up_from i (n - i)) → c ≡ total
unfolding sum_of up_from
sum_end f n i c total h e =
    let s : n - i ≡ 0 = omega arith in
    let t : total ≡ c + 0 = e ∙ ap (λ (k : ℕ). c + sum_of f (up_from i k)) s in
    omega arith

pub sum_start : (f : ℕ → ℕ) (n : ℕ) → sum_of f (up_from 0 n) ≡ 0 + sum_of f (up_from 0 (n - 0))
sum_start f n = let e : n - 0 ≡ n = omega arith in rw e (omega arith)
