-- What is known of a job that opening accepts.
use Rattle.std.specs.Prelude.{◌≡◌, ◌≢◌, true, false, List, [], map, ℕ, ◌+◌, ◌-◌, ◌<◌, ◌≤◌, length}
use Rattle.std.proofs.Math.Option.{none, some}
use Rattle.rules.specs.Job.{Node, Split, Job, node_at, is_segment, kids, rows_of, width_of, unequal, offset, runs_fault, max_rows}
use Rattle.rules.specs.Plan.{root_of, split_of, node_of}

-- an inner node and its children
pub record Joined (ns : List Node) (n : ℕ) : Type 0 where
  pub some_kids : kids ns n ≢ []
  pub rows : (node_at ns n).rows ≡ rows_of (node_at ns n).kind (map (node_at ns) (kids ns n))
  pub width : (node_at ns n).width ≡ width_of (node_at ns n).kind (map (node_at ns) (kids ns n))
  pub equal : unequal (node_at ns n).kind (map (node_at ns) (kids ns n)) ≡ false

pub record SplitOk (j : Job) (s : Split) : Type 0 where
  pub order : s.start ≤ s.end
  pub within : s.end ≤ (node_of j (root_of j)).rows
  pub runs : runs_fault (s.end - s.start) none s.runs ≡ false
  pub few : length s.runs ≤ 16

pub record JobOk (j : Job) : Type 0 where
  pub slots_low : 1 ≤ j.slots
  pub slots_high : j.slots ≤ 3
  pub nodes_low : 1 ≤ length j.nodes
  pub nodes_high : length j.nodes ≤ 24
  pub splits_high : length j.splits ≤ 16
  -- parents stand behind their children; only the last node has none, and no leaf is one
  pub up : (n q : ℕ) → (node_of j n).parent ≡ some q → (n < q) × (q < length j.nodes)
  pub root : (node_of j (root_of j)).parent ≡ none
  pub under : (n : ℕ) → n < root_of j → (q : ℕ) × ((node_of j n).parent ≡ some q)
  pub inner : (n q : ℕ) → (node_of j n).parent ≡ some q → is_segment (node_of j q).kind ≡ false
  -- between a node and its parent no node has a parent past that one: all below a node stands right before it
  pub within : (n q i : ℕ) → (node_of j n).parent ≡ some q → n < i → i < q → (p : ℕ) × ((node_of j i).parent ≡ some p) × (p ≤ q)
  pub joined : (n : ℕ) → n < length j.nodes → is_segment (node_of j n).kind ≡ false → Joined j.nodes n
  pub leaf : (n : ℕ) → n < length j.nodes → is_segment (node_of j n).kind ≡ true → (node_of j n).width ≡ 1
  -- where a node's rows stand among the root's
  pub at_root : (node_of j (root_of j)).at ≡ 0
  pub at_kid : (n q : ℕ) → (node_of j n).parent ≡ some q → (node_of j n).at ≡ offset j.nodes q n + (node_of j q).at
  pub rows_high : (n : ℕ) → (node_of j n).rows ≤ max_rows
  pub width_high : (n : ℕ) → (node_of j n).width ≤ 4
  -- one segment has one row count
  pub one_count : (l k : ℕ) → l < length j.nodes → k < length j.nodes → is_segment (node_of j l).kind ≡ true → is_segment (node_of j k).kind ≡ true
      → (node_of j l).segment ≡ (node_of j k).segment → (node_of j l).rows ≡ (node_of j k).rows
  pub splits : (s : ℕ) → s < length j.splits → SplitOk j (split_of j s)
