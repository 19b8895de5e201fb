-- What a batch is, in the terms of the rules.
use Rattle.std.specs.Prelude.{◌≡◌, Bool, true, false, List, [], map, ℕ, ◌+◌, take, leb, if◌then◌else◌, Option, Some, None, Result}
use Rattle.std.specs.Result.{is_ok}
use Rattle.rules.specs.Table.{all}
use Rattle.rules.specs.Plan.{Cell}
use Rattle.rules.specs.Port as rules
use Rattle.rules.specs.Operators.{run_batch}
use Rattle.batches.specs.declared.batch.Batch.{Batch}
use Rattle.batches.specs.Cells.{cells_of}
use Rattle.numbers.specs.Opt.{either_of}

-- the cells of the first `width` columns
abbrev pub batch_of : Batch → rules.Batch
batch_of b = record { rows = b.rows; cells = cells_of (take b.width b.segment) (take b.width b.first) }

-- `size` rows of a segment, from `start` on
abbrev pub run_of : ℕ → ℕ → ℕ → rules.Batch
run_of segment start size = run_batch segment (record { start = start; size = size })

-- what stands past the end of a table of batches
abbrev pub blank : Batch
blank = record { rows = 0; width = 0; segment = []; first = [] }

-- a row number plus n has 32 bits
abbrev pub fits_row : ℕ → ℕ → Bool
fits_row n x = leb (x + n) 4294967295

abbrev pub fits : ℕ → rules.Batch → Bool
fits n b = all (λ (c : Cell). fits_row n c.row) b.cells

-- what is behind n rows, or the batch itself where that does not fit
pub record Behind (n : ℕ) (b : Batch) (r : Result Batch Batch) : Type 0 where
  pub ok : is_ok r ≡ fits n (batch_of b)
  pub batch : batch_of (either_of r) ≡ (if fits n (batch_of b) then rules.behind n (batch_of b) else batch_of b)

-- the first rows of `width` columns, n further down where that fits
abbrev pub Lowered : List ℕ → ℕ → ℕ → Option (List ℕ) → Type 0
Lowered first width n None = all (fits_row n) (take width first) ≡ false
Lowered first width n (Some r) = (all (fits_row n) (take width first) ≡ true) × (take width r ≡ map (λ (x : ℕ). x + n) (take width first))
