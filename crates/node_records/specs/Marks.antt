-- What kind of record was read.
use Rattle.std.specs.Prelude.{◌≡◌, Bool, true, false, List, ℕ}
use Rattle.rules.specs.Job as rule
use Rattle.records.specs.Read.{record_of}
use Rattle.records.specs.declared.Record.{Record}

abbrev pub is_split : rule.Record → Bool
is_split (rule.slots n) = false
is_split (rule.leaf g n) = false
is_split (rule.join k n) = false
is_split (rule.split a b rs) = true

-- whether a record that was read is one, from whatever bytes
abbrev pub SplitIs : Bool → Record → Type 0
SplitIs x r = (xs : List ℕ) → is_split (record_of xs r) ≡ x
