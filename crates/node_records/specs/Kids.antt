-- The children that a new node takes: entries of the stack of parentless nodes.
use Rattle.std.specs.Prelude.{◌≡◌, Bool, true, false, not, List, map, ℕ, ◌≤◌, ◌<◌, length, get_or, eqb}
use Rattle.std.proofs.Math.Option.{none}
use Rattle.rules.specs.Job as rule
use Rattle.jobs.specs.Job.{node_of}
use Rattle.jobs.specs.declared.Node.{Node}

-- a node's rows, or else its width
abbrev pub measure_of : Bool → rule.Node → ℕ
measure_of true x = x.rows
measure_of false x = x.width

abbrev pub differs : Bool → ℕ → rule.Node → Bool
differs rows v x = not (eqb (measure_of rows x) v)

-- the nodes that the entries name
unfoldable pub kid_nodes : List Node → List ℕ → List rule.Node
kid_nodes nodes kids = map (rule.node_at (map node_of nodes)) kids

-- the entries are few, and nodes
pub record Kids (nodes : List Node) (kids : List ℕ) : Type 0 where
  pub few : length kids ≤ 24
  pub below : (k : ℕ) → k < length kids → get_or kids k 0 < length nodes

-- the width and the rows of a node over these children, and whether they are unequal
pub record Summed (k : rule.Kind) (xs : List rule.Node) (width rows : ℕ) (uneven : Bool) : Type 0 where
  pub width_is : width ≡ rule.width_of k xs
  pub rows_is : rows ≡ rule.rows_of k xs
  pub unequal_is : uneven ≡ rule.unequal k xs

abbrev pub joined_of : rule.Kind → ℕ → ℕ → rule.Node
joined_of k rows width = record { kind = k; segment = 0; rows = rows; width = width; parent = none; at = 0 }
