-- Where the reader stands in the job bytes.
use Rattle.std.specs.Prelude.{◌≡◌, false, List, ℕ, ◌+◌, ◌≤◌, length, drop}
use Rattle.std.proofs.Math.Option.{some}
use Rattle.rules.specs.Job as rule
use Rattle.node_records.specs.Marks.{is_split}

-- the rule's answer on all bytes is its answer on those from a position on, with fuel enough for them
pub record Stands (xs : List ℕ) (x : rule.Reading) (at : ℕ) : Type 0 where
  pub fuel : ℕ
  pub enough : length xs ≤ at + fuel
  pub is : rule.read_all rule.accept fuel x (drop at xs) ≡ rule.records xs

-- out of sequence, unless it is a split
abbrev pub LateBut : rule.Record → rule.Reading → Type 0
LateBut r x = is_split r ≡ false → rule.accept r x ≡ rule.refused 2

-- among the splits: any other record that stands here is out of sequence
pub record AtSplits (xs : List ℕ) (x : rule.Reading) (at : ℕ) : Type 0 where
  pub stands : Stands xs x at
  pub only : (r : rule.Record) (rest : List ℕ) → some (r, rest) ≡ rule.next_record (drop at xs) → LateBut r x
