-- The fields of a stored split, each in its place, and its runs.
use Rattle.std.specs.Prelude.{ℕ, zero, suc, ◌+◌, ◌*◌, ◌≤◌, ◌<◌, ◌≡◌, refl, List, [], ◌∷◌, length, get_or, take, drop}
use Rattle.std.proofs.Common.{arith, ◌∙◌, length-take-le, le-leb}
use Rattle.std.proofs.Math.Path.{sym, ap}
use Rattle.std.proofs.lemmas.Bool.{lt-leb}
use Rattle.rules.specs.Table.{get}
use Rattle.rules.specs.Job.{Run, Split}
use Rattle.rules.specs.Plan.{split_of}
use Rattle.laws.specs.Table.{get_past}
use Rattle.layout.specs.Cut.{cut}
use Rattle.layout.specs.Numbers.{word}
use Rattle.layout.specs.Records.{table, length_table}
use Rattle.layout.specs.Stored.{first_at}
use Rattle.tables.specs.Decode.{run, split, runs_from}
use Rattle.tables.specs.View.{view, Sized}
use Rattle.tables.specs.Job.{split_number, split_loaded, split_past, get_take}
use Rattle.table_job.specs.Within.{word_within, entry_within}

-- a run without rows
abbrev pub no_run : Run
no_run = record { start = 0; size = 0 }

-- the bytes of a split
abbrev record_of : List ℕ → ℕ → List ℕ
record_of s t = take 137 (drop (1135 + t * 137) s)

-- its table of runs
abbrev run_table : List ℕ → ℕ → List Run
run_table s t = table run 8 16 (cut 9 137 (record_of s t))

only : (i : ℕ) → no_run ≡ get no_run (no_run ∷ []) i
only zero = refl
only (suc i) = refl

module _ (s : List ℕ) (z : Sized s) (t : ℕ) where
  -- Past the last

  pub no_start : length (view s).job.splits ≤ t → 0 ≡ (split_of (view s).job t).start
  no_start h = ap (λ (x : Split). x.start) (split_past s z t h)

  pub no_end : length (view s).job.splits ≤ t → 0 ≡ (split_of (view s).job t).end
  no_end h = ap (λ (x : Split). x.end) (split_past s z t h)

  pub no_runs : length (view s).job.splits ≤ t → 0 ≡ length (split_of (view s).job t).runs
  no_runs h = ap (λ (x : Split). length x.runs) (split_past s z t h)

  pub run_none : (i : ℕ) → length (view s).job.splits ≤ t → no_run ≡ get no_run (split_of (view s).job t).runs i
  run_none i h = ap (λ (x : Split). get no_run x.runs i) (split_past s z t h)

  -- A split of the job

  module _ (h : t < length (view s).job.splits) where
    -- the table has a place for it
    few : t < 16
    few = omega (arith, split_number s z)

    word_at : (b k : ℕ) → k < 2 → b ≡ 1135 + t * 137 + 1 + k * 4 → word (take 4 (drop b s)) ≡ get_or (table word 4 2 (cut 1 9 (record_of s t))) k 0
    word_at b k i e = let f = few in rw e (sym (word_within s (1135 + t * 137) 137 1 2 k i (omega arith) (omega arith)))

    pub start_in : word (take 4 (drop (1135 + t * 137 + 1) s)) ≡ (split_of (view s).job t).start
    unfolding split
    start_in = word_at (1135 + t * 137 + 1) 0 (omega arith) (omega arith) ∙ sym (ap (λ (x : Split). x.start) (split_loaded s z t h))

    pub end_in : word (take 4 (drop (1135 + t * 137 + 5) s)) ≡ (split_of (view s).job t).end
    unfolding split
    end_in = word_at (1135 + t * 137 + 5) 1 (omega arith) (omega arith) ∙ sym (ap (λ (x : Split). x.end) (split_loaded s z t h))

    runs_are : (split_of (view s).job t).runs ≡ runs_from (get_or s (1135 + t * 137) 0) (cut 9 137 (record_of s t))
    unfolding split
    runs_are = ap (λ (x : Split). x.runs) (split_loaded s z t h) ∙ ap (λ (n : ℕ). runs_from n (cut 9 137 (record_of s t))) (first_at s (1135 + t * 137) 137 refl)

    -- a count within the table
    module _ (n : ℕ) (e : n ≡ get_or s (1135 + t * 137) 0) (k : n ≤ 16) where
      front_runs : (split_of (view s).job t).runs ≡ take n (run_table s t)
      front_runs = runs_are ∙ rw (← e, le-leb n 16 k)

      pub run_number : n ≡ length (split_of (view s).job t).runs
      run_number = sym (ap length front_runs ∙ length-take-le n (run_table s t) (rw (length_table run 8 16 (cut 9 137 (record_of s t))) k))

      pub run_past : (i : ℕ) → n ≤ i → no_run ≡ get no_run (split_of (view s).job t).runs i
      run_past i l = sym (get_past no_run (split_of (view s).job t).runs i (omega (arith, run_number)))

      pub run_in : (i : ℕ) → i < n → run (take 8 (drop (1135 + t * 137 + 9 + i * 8) s)) ≡ get no_run (split_of (view s).job t).runs i
      run_in i l =
          let f = few in
          sym
          (ap (λ (xs : List Run). get no_run xs i) front_runs
          ∙ get_take no_run (run_table s t) n i l
          ∙ entry_within run no_run s (1135 + t * 137) 137 9 8 16 i (omega arith) (omega arith) (omega arith))

    -- a count past it
    module _ (n : ℕ) (e : n ≡ get_or s (1135 + t * 137) 0) (k : 16 < n) where
      one_run : (split_of (view s).job t).runs ≡ no_run ∷ []
      one_run = runs_are ∙ rw (← e, lt-leb n 16 k)

      pub run_one : 1 ≡ length (split_of (view s).job t).runs
      run_one = sym (ap length one_run)

      pub run_blank : (i : ℕ) → no_run ≡ get no_run (split_of (view s).job t).runs i
      run_blank i = only i ∙ sym (ap (λ (xs : List Run). get no_run xs i) one_run)
