-- An answer as numbers, for programs in C and Rust.
use Rattle.std.specs.Prelude.{Bool, ◌&&◌, List, [], ◌∷◌, ℕ, length, get_or, replicate, eqb, leb, if◌then◌else◌, Ok, Err}
use Rattle.std.proofs.Math.Option.{Option, none, some}
use Rattle.rules.specs.Plan.{Cell}
use Rattle.rules.specs.Port.{Batch}
use Rattle.numbers.specs.Opt.{option_of}
use Rattle.turn.specs.Told.{ToldVerdict}
use Rattle.turn.specs.declared.Told.{Told}
use Rattle.turn.specs.declared.Turn.{Turn}
use Rattle.turn.specs.declared.Turn.TheVariants as turn
use Rattle.jobs.specs.Refusal.{Verdict, lone, at_run}
use Rattle.batches.specs.Batch.{batch_of}
use Rattle.turn_numbers.specs.Copy.{over}

-- An opening

-- 0, or the table's number
abbrev pub verdict_number : ToldVerdict → ℕ
verdict_number (Ok x) = 0
verdict_number (Err t) = t.number

-- what it leaves in the place of a run's index
abbrev pub index_or : Option ℕ → ℕ → ℕ
index_or none u = u
index_or (some i) u = i

abbrev pub run_written : ToldVerdict → ℕ → ℕ
run_written (Ok x) u = u
run_written (Err t) u = index_or (option_of t.run) u

-- 17 to 19 are of a run
abbrev pub of_run : ℕ → Bool
of_run n = leb 17 n && leb n 19

-- and back: what the number and the place say
abbrev pub verdict_by : ℕ → ℕ → Verdict
verdict_by n i = if eqb n 0 then Ok tt else Err (if of_run n then at_run n i else lone n)

-- A turn

abbrev pub turn_number : Turn Told → ℕ
turn_number (turn.Read r g) = 0
turn_number (turn.Output s b) = 0
turn_number turn.Waiting = 0
turn_number turn.Done = 0
turn_number (turn.Refused t) = t.number

-- "Read (read number, segment)": kind 1
abbrev pub read_numbers : ℕ → ℕ → List ℕ
read_numbers r g = 1 ∷ r ∷ g ∷ replicate 9 0

-- what stands where there is no column
abbrev pub no_cell : Cell
no_cell = record { segment = 0; row = 0 }

abbrev pub segment_at : Batch → ℕ → ℕ
segment_at b i = (get_or b.cells i no_cell).segment

abbrev pub row_at : Batch → ℕ → ℕ
row_at b i = (get_or b.cells i no_cell).row

-- "Output (split, rows, and for each column a segment and first row)": kind 2, with the number of columns before them
abbrev pub output_numbers : ℕ → Batch → List ℕ
output_numbers s b =
    2 ∷ s ∷ b.rows ∷ length b.cells
    ∷ segment_at b 0 ∷ row_at b 0 ∷ segment_at b 1 ∷ row_at b 1 ∷ segment_at b 2 ∷ row_at b 2 ∷ segment_at b 3 ∷ row_at b 3 ∷ []

-- "Waiting or Done": kinds 3 and 4
abbrev pub plain_numbers : ℕ → List ℕ
plain_numbers k = k ∷ replicate 11 0

-- what a step or a delivery leaves of some numbers: a turn's over the first twelve, or, refused, all of them
abbrev pub written : Turn Told → List ℕ → List ℕ
written (turn.Read r g) u = over (read_numbers r g) u
written (turn.Output s b) u = over (output_numbers s (batch_of b)) u
written turn.Waiting u = over (plain_numbers 3) u
written turn.Done u = over (plain_numbers 4) u
written (turn.Refused r) u = u
