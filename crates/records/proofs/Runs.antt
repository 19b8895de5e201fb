-- The runs at a position: n of eight bytes each, or none where there are fewer bytes.
use mathlib.Core.Path.{◌≡◌}
use mathlib.Core.List.{List}
use mathlib.Core.Option.{none, some}
use Prim.Native.Nat.{ℕ, zero, suc, ◌+◌, ◌*◌, ◌≤◌, ◌<◌}
use native.Mathlib.Omega.{arith}
use lib.ListN.{length, drop}
use Rattle.records.proofs.Cases.{by_less}
use Rattle.rules.specs.Job.{runs, ◌>>=◌}
use Rattle.records.specs.Read.{runs_at}
use Rattle.records.proofs.Words.{word_at, word_short}

pub runs_at_lem : (xs : List ℕ) (at n : ℕ) → at + 8 * n ≤ length xs → runs n (drop at xs) ≡ some (runs_at xs at n, drop (at + 8 * n) xs)
unfolding runs runs_at
runs_at_lem xs at zero h = let e : at + 8 * 0 ≡ at = omega arith in rw e
runs_at_lem xs at (suc n) h =
    let a : at + 4 ≤ length xs = omega arith in
    let b : at + 4 + 4 ≤ length xs = omega arith in
    let e : at + 4 + 4 ≡ at + 8 = omega arith in
    let f : at + 8 * suc n ≡ at + 8 + 8 * n = omega arith in
    rw (runs, word_at xs at a, ◌>>=◌, word_at xs (at + 4) b, e, runs_at_lem xs (at + 8) n (omega arith), f)

runs_few : (xs : List ℕ) (at n : ℕ) → at + 8 ≤ length xs → runs n (drop (at + 8) xs) ≡ none → runs (suc n) (drop at xs) ≡ none
unfolding runs
runs_few xs at n h ih =
    let e : at + 4 + 4 ≡ at + 8 = omega arith in
    rw (runs, word_at xs at (omega arith), ◌>>=◌, word_at xs (at + 4) (omega arith), e, ih)

runs_one : (xs : List ℕ) (at n : ℕ) → length xs < at + 8 → runs (suc n) (drop at xs) ≡ none
unfolding runs
runs_one xs at n h =
    by_less (length xs) (at + 4) (λ l. rw (runs, word_short xs at l, ◌>>=◌)) (λ g. rw (runs, word_at xs at g, ◌>>=◌, word_short xs (at + 4) (omega arith)))

pub runs_short : (xs : List ℕ) (at n : ℕ) → at ≤ length xs → length xs < at + 8 * n → runs n (drop at xs) ≡ none
runs_short xs at zero g h = absurd (omega arith)
runs_short xs at (suc n) g h =
    by_less (length xs) (at + 8) (λ l. runs_one xs at n l) (λ k. runs_few xs at n k (runs_short xs (at + 8) n k (omega arith)))
