-- Splits tested one after another, and the runs of each.
use Rattle.std.specs.Prelude.{◌≡◌, Bool, true, false, not, ◌||◌, List, ℕ, zero, suc, ◌+◌, ◌-◌, ◌<◌, ◌≤◌, length, take, drop, get_or}
use Rattle.std.proofs.Math.Path.{refl}
use Rattle.std.proofs.Common.{sym, ◌∙◌, arith, drop_of_length-le, drop-cons, get_or-take, length-take-le, le-leb}
use Rattle.std.proofs.Math.Option.{Option, none, some}
use Rattle.std.proofs.lemmas.Bool.{lt-leb}
use Rattle.rules.specs.Table.{get}
use Rattle.rules.specs.Job.{Run, Split, run_fault, runs_fault}
use Rattle.laws.specs.Table.{get_get_or}
use Rattle.layout.specs.Cut.{cut}
use Rattle.layout.specs.Numbers.{byte}
use Rattle.layout.specs.Records.{table, length_table}
use Rattle.tables.specs.Decode.{run, split}
use Rattle.table_job.specs.Quick.{no_run}
use Rattle.stored.specs.Walk.{split_fits}
use Rattle.numbers.specs.Tests.{and_no}

not_off : (b : Bool) → not b ≡ false → b ≡ true
not_off true h = refl
not_off false h = sym h

not_on : (b : Bool) → not b ≡ true → b ≡ false
not_on true h = sym h
not_on false h = refl

-- Runs

-- where the run before ends, if the next may start at this row first
abbrev pub end_before : ℕ → Option ℕ
end_before zero = none
end_before (suc e) = some e

module _ (size from : ℕ) (rs : List Run) (k : ℕ) where
  -- no run is left
  pub runs_end : length rs ≤ k → not (runs_fault size (end_before from) (drop k rs)) ≡ true
  unfolding runs_fault
  runs_end h = rw (drop_of_length-le rs {i = k} h)

  module _ (h : k < length rs) (y : Run) (e : y ≡ get_or rs k no_run) (b : Bool) (f : b ≡ not (run_fault size (end_before from) y)) where
    fault_by : runs_fault size (end_before from) (drop k rs) ≡ run_fault size (end_before from) y || runs_fault size (some (y.start + y.size)) (drop (suc k) rs)
    unfolding runs_fault
    fault_by = rw (drop-cons rs k no_run h, ← e) refl

    -- a run that does not fit
    pub runs_hit : b ≡ false → not (runs_fault size (end_before from) (drop k rs)) ≡ false
    runs_hit t = rw (fault_by, not_off (run_fault size (end_before from) y) (sym f ∙ t))

    -- one that does
    pub runs_miss : b ≡ true → (next : ℕ) → next ≡ y.start + y.size + 1 →
        not (runs_fault size (end_before from) (drop k rs)) ≡ not (runs_fault size (end_before next) (drop (k + 1) rs))
    runs_miss t next q =
        let a : k + 1 ≡ suc k = omega arith in
        let n : next ≡ suc (y.start + y.size) = omega arith in
        rw (fault_by, not_on (run_fault size (end_before from) y) (sym f ∙ t), a, n) refl

-- a run among the first n
pub run_among : (rs : List Run) (n k : ℕ) → k < n → get no_run rs k ≡ get_or (take n rs) k no_run
run_among rs n k h = get_get_or no_run rs k ∙ sym (get_or-take n rs k no_run h)

-- n runs of a table of 16
pub run_number : (r : List ℕ) (n : ℕ) → n ≤ 16 → length (take n (table run 8 16 r)) ≡ n
run_number r n h = length-take-le n (table run 8 16 r) (rw (length_table run 8 16 r) h)

-- The split of a record

-- more runs than there are places
pub split_many : (rows : ℕ) (r : List ℕ) → 16 < byte r 0 → false ≡ split_fits rows (split r)
unfolding split runs_fault
split_many rows r h = rw (lt-leb (byte r 0) 16 h, and_no)

module _ (rows : ℕ) (x : Split) (a b : ℕ) (e : a ≡ x.start) (f : b ≡ x.end) where
  -- a split that starts after its end
  pub split_turned : b < a → false ≡ split_fits rows x
  split_turned h = rw (lt-leb x.start x.end (omega arith))

  -- one that ends past the plan
  pub split_past : a ≤ b → rows < b → false ≡ split_fits rows x
  split_past h k = rw (le-leb x.start x.end (omega arith), lt-leb x.end rows (omega arith))

  -- any other
  pub split_runs : a ≤ b → b ≤ rows → length x.runs ≤ 16 → not (runs_fault (b - a) none x.runs) ≡ split_fits rows x
  split_runs h k l = rw (le-leb x.start x.end (omega arith), le-leb x.end rows (omega arith), le-leb (length x.runs) 16 l, e, f) refl

-- no more runs than there are places: then the runs decide
pub runs_decide : (rows : ℕ) (r : List ℕ) (n a b : ℕ) (fit : Bool) → n ≡ byte r 0 → a ≡ (split r).start → b ≡ (split r).end → n ≤ 16 → a ≤ b → b ≤ rows
    → fit ≡ not (runs_fault (b - a) none (take n (table run 8 16 (cut 9 137 r)))) → fit ≡ split_fits rows (split r)
unfolding split
runs_decide rows r n a b fit c e f h k l q =
    let m : take n (table run 8 16 (cut 9 137 r)) ≡ (split r).runs = rw (le-leb (byte r 0) 16 (omega arith), c) refl in
    let o : length (split r).runs ≤ 16 = rw (← m) (omega (arith, run_number (cut 9 137 r) n h)) in
    rw m at q ∙ split_runs rows (split r) a b e f k l o
