-- What the readers' answers say, in the terms of the rules.
use Rattle.std.specs.Prelude.{◌≡◌, List, [], ◌∷◌, ℕ, zero, suc, ◌+◌, ◌*◌, ◌≤◌, ◌<◌, length, drop, get_or, IfSome}
use Rattle.std.specs.Prelude as code
use Rattle.std.proofs.Math.Option.{Option, none, some}
use Rattle.numbers.specs.Opt.{option_by}
use Rattle.rules.specs.Job as rule
use Rattle.records.specs.declared.Record.{Record}
use Rattle.records.specs.declared.Record.TheVariants.{Slots, Leaf, Concat, Pack, Split}

-- a word that was read, and the bytes after it
abbrev pub word_of : List ℕ → code.Option (ℕ × ℕ) → Option (ℕ × List ℕ)
word_of xs r = option_by (λ w. (w.0, drop w.1 xs)) r

-- where a word that was read ends
abbrev pub WordEnds : List ℕ → ℕ → code.Option (ℕ × ℕ) → Type 0
WordEnds xs at r = IfSome r (λ w. (w.1 ≡ at + 4) × (w.1 ≤ length xs))

-- the number that was read, or 0
abbrev pub number_of : Option (ℕ × List ℕ) → ℕ
number_of none = 0
number_of (some x) = x.0

-- the number of four bytes at a position
abbrev pub value : List ℕ → ℕ → ℕ
value xs at = get_or xs at 0 + 256 * (get_or xs (at + 1) 0 + 256 * (get_or xs (at + 2) 0 + 256 * get_or xs (at + 3) 0))

abbrev pub run_at : List ℕ → ℕ → rule.Run
run_at xs at = record { start = value xs at; size = value xs (at + 4) }

-- the n runs from a position on
unfoldable pub runs_at : List ℕ → ℕ → ℕ → List rule.Run
runs_at xs at zero = []
runs_at xs at (suc n) = run_at xs at ∷ runs_at xs (at + 8) n

abbrev pub record_of : List ℕ → Record → rule.Record
record_of xs (Slots n) = rule.slots n
record_of xs (Leaf g n) = rule.leaf g n
record_of xs (Concat n) = rule.join rule.concat n
record_of xs (Pack n) = rule.join rule.pack n
record_of xs (Split s e n at) = rule.split s e (runs_at xs at n)

-- a record that was read, and the bytes after it
abbrev pub read_of : List ℕ → code.Option (Record × ℕ) → Option (rule.Record × List ℕ)
read_of xs r = option_by (λ g. (record_of xs g.0, drop g.1 xs)) r

-- where a split's runs end
abbrev pub RunsEnd : List ℕ → Record → Type 0
RunsEnd xs (Slots n) = Unit {0}
RunsEnd xs (Leaf g n) = Unit {0}
RunsEnd xs (Concat n) = Unit {0}
RunsEnd xs (Pack n) = Unit {0}
RunsEnd xs (Split s e n at) = at + 8 * n ≤ length xs

-- where a record that was read ends: after the position, and within the bytes
abbrev pub ReadEnds : List ℕ → ℕ → code.Option (Record × ℕ) → Type 0
ReadEnds xs at r = IfSome r (λ g. (at < g.1) × (g.1 ≤ length xs) × RunsEnd xs g.0)
