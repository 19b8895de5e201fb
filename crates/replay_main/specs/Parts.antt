-- The list by its parts, where a contract knows the bytes of its reader.
use Rattle.std.specs.Prelude.{◌≡◌, Bool, List, ℕ, length, take}
use Rattle.std.specs.Bool.{Decides}
use Rattle.std.specs.Io.KnownBytes.{Consumes}
use Rattle.std.specs.declared.option.Option.{Option}
use Rattle.rules.specs.Job.{word}
use Rattle.rules.specs.Session.{session}
use Rattle.records.specs.Read.{number_of}

-- a reader that had the bytes i has j: it gave a length
abbrev pub Size : Option (List ℕ) → Option (List ℕ) → ℕ → Type 0
Size i j n = (b : List ℕ) × Consumes i j b × (number_of (word b) ≡ n)

-- it gave a length and so many bytes, which are xs
abbrev pub Part : Option (List ℕ) → Option (List ℕ) → List ℕ → Type 0
Part i j xs = (k : Option (List ℕ)) × Size i k (length xs) × Consumes k j xs

-- it gave a session: its input, and the answers that are like the rule's, as far as there is room, or not
abbrev pub Replays : Option (List ℕ) → Option (List ℕ) → Bool → Type 0
Replays i j alike =
    (k : Option (List ℕ)) × (xs : List ℕ) × (ys : List ℕ) × Part i k xs × Part k j ys × Decides alike (ys ≡ take 65536 (session xs))
