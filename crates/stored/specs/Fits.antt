-- A test of a stored job in one pass over its nodes: that it is the rule, `Rattle.stored.proofs.Fits` proves.
use Rattle.std.specs.Prelude.{Bool, ◌&&◌, [], length, leb}
use Rattle.rules.specs.Table.{all}
use Rattle.rules.specs.Job.{Job, max_nodes, max_splits, max_slots}
use Rattle.rules.specs.Plan.{node_of, root_of}
use Rattle.stored.specs.Walk.{walk, ends, split_fits}

-- how many slots, nodes and splits there are
abbrev pub counts_fit : Job → Bool
counts_fit j =
    leb 1 j.slots && leb j.slots max_slots && leb 1 (length j.nodes) && leb (length j.nodes) max_nodes && leb (length j.splits) max_splits

-- the walk over the nodes
abbrev pub nodes_fit : Job → Bool
nodes_fit j = ends j.nodes (walk j.nodes 0 (length j.nodes) [])

-- the splits
abbrev pub splits_fit : Job → Bool
splits_fit j = all (split_fits (node_of j (root_of j)).rows) j.splits

-- the stored job fits
unfoldable pub fits : Job → Bool
fits j = counts_fit j && nodes_fit j && splits_fit j
