-- A draft, in the terms of the rules.
use Rattle.std.specs.Prelude.{◌≡◌, List, [], reverse, ℕ, ◌≤◌, ◌<◌, length, take, get_or}
use Rattle.rules.specs.Job as rule
use Rattle.jobs.specs.Job.{front, node_of}
use Rattle.node_records.specs.declared.Draft.{Draft}

-- the first n of a stack, the newest first
unfoldable pub newest_of : List ℕ → ℕ → List ℕ
newest_of xs n = reverse (take n xs)

-- a draft and the splits behind it
abbrev pub draft_with : Draft → List rule.Split → rule.Draft
draft_with d xs =
    record { slots = d.slots; nodes = front node_of d.nodes d.node_count; free = newest_of d.free d.free_count; splits = xs }

abbrev pub draft_of : Draft → rule.Draft
draft_of d = draft_with d []

-- with what is known of the node records
abbrev pub reading_with : Draft → List rule.Split → rule.Reading
reading_with d xs = record { draft = draft_with d xs; count = d.records; labels = newest_of d.labels d.node_count }

abbrev pub reading_of : Draft → rule.Reading
reading_of d = reading_with d []

-- the counts are within the tables, and the parentless nodes are nodes
pub record Fine (d : Draft) : Type 0 where
  pub node_table : length d.nodes ≡ 24
  pub free_table : length d.free ≡ 24
  pub label_table : length d.labels ≡ 24
  pub record_fit : d.records ≤ 24
  pub node_fit : d.node_count ≤ d.records
  pub free_fit : d.free_count ≤ d.node_count
  pub below : (k : ℕ) → k < d.free_count → get_or d.free k 0 < d.node_count
