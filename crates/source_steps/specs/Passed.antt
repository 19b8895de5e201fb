-- A concat passes the inlets that have ended, one after another.
use Rattle.std.proofs.Math.Path.{◌≡◌}
use Rattle.std.specs.Prelude.{refl, true, false, ℕ, suc, ◌+◌, ◌-◌, ◌≤◌, ◌<◌}
use Rattle.std.proofs.Common.{add-one}
use native.Mathlib.Omega.{arith}
use Rattle.rules.specs.Port as rows
use Rattle.rules.specs.Operators.{is_ended, concat_at}

module _ (shows : ℕ → rows.Seen) where
  -- no inlet is left
  pub at_none : (n i : ℕ) → n ≤ i → concat_at shows (n - i) i ≡ i
  unfolding concat_at
  at_none n i h = let e : n - i ≡ 0 = omega arith in rw e

  at_by : (k i : ℕ) (x : rows.Seen) → shows i ≡ x → is_ended x ≡ false → concat_at shows (suc k) i ≡ i
  unfolding concat_at
  at_by k i rows.waiting e f = rw (e, concat_at)
  at_by k i rows.ready e f = rw (e, concat_at)
  at_by k i rows.ended e f = let z : ◌≡◌ {A = ℕ} 0 1 = cc in absurd (omega arith)

  -- an inlet that has not ended
  pub at_open : (n i : ℕ) → i < n → is_ended (shows i) ≡ false → concat_at shows (n - i) i ≡ i
  at_open n i h f = let e : n - i ≡ suc (n - suc i) = omega arith in rw e (at_by (n - suc i) i (shows i) refl f)

  past_by : (k i : ℕ) (x : rows.Seen) → shows i ≡ x → is_ended x ≡ true → concat_at shows (suc k) i ≡ concat_at shows k (suc i)
  unfolding concat_at
  past_by k i rows.waiting e f = let z : ◌≡◌ {A = ℕ} 0 1 = cc in absurd (omega arith)
  past_by k i rows.ready e f = let z : ◌≡◌ {A = ℕ} 0 1 = cc in absurd (omega arith)
  past_by k i rows.ended e f = rw (e, concat_at)

  -- one that has
  pub at_past : (n i : ℕ) → i < n → is_ended (shows i) ≡ true → concat_at shows (n - i) i ≡ concat_at shows (n - (i + 1)) (i + 1)
  at_past n i h f =
      let e : n - i ≡ suc (n - suc i) = omega arith in
      rw (add-one i, e) (past_by (n - suc i) i (shows i) refl f)
