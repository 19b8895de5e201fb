-- The front batches of a pack's inlets.
use Rattle.std.specs.Prelude.{◌≡◌, Bool, List, map, ℕ, length, take, leb, if◌then◌else◌, Option}
use Rattle.std.proofs.Math.Option.{none, some}
use Rattle.rules.specs.Port as rules
use Rattle.rules.specs.Operators.{side_by_side}
use Rattle.numbers.specs.Opt.{option_by}
use Rattle.batches.specs.declared.batch.Batch.{Batch}
use Rattle.batches.specs.Batch.{batch_of}
use Rattle.pack_source.specs.declared.fronts.Fronts.{Fronts}

-- the first `len` batches
abbrev pub fronts_of : Fronts → List rules.Batch
fronts_of f = map batch_of (take f.len f.batches)

-- at most 4 columns in all
abbrev pub narrow : List rules.Batch → Bool
narrow bs = leb (length (side_by_side 0 bs).cells) 4

-- all side by side, or a refusal
abbrev pub Joins : ℕ → List rules.Batch → Option Batch → Type 0
Joins n bs r = option_by batch_of r ≡ (if narrow bs then some (side_by_side n bs) else none)
