-- A test of the numbers below n, one after another, from k on.
use Rattle.std.specs.Prelude.{ℕ, suc, ◌+◌, ◌-◌, ◌≤◌, ◌<◌, ◌≡◌, Bool, true, false}
use Rattle.std.proofs.Common.{arith, add-one}
use Rattle.rules.specs.Table.{all, up_from}

module _ (f : ℕ → Bool) (n k : ℕ) where
  -- number k passes or fails
  pub counted_pass : k < n → true ≡ f k → all f (up_from k (n - k)) ≡ all f (up_from (k + 1) (n - (k + 1)))
  unfolding all up_from
  counted_pass h e = let m : n - k ≡ suc (n - (k + 1)) = omega arith in rw (m, ← e, add-one k)

  pub counted_fail : k < n → false ≡ f k → all f (up_from k (n - k)) ≡ false
  unfolding all up_from
  counted_fail h e = let m : n - k ≡ suc (n - (k + 1)) = omega arith in rw (m, ← e)

  -- none is left
  pub counted_end : n ≤ k → all f (up_from k (n - k)) ≡ true
  unfolding all up_from
  counted_end h = let m : n - k ≡ 0 = omega arith in rw m
