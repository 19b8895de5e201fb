-- `table_blank::nodes::store_nodes` meets its contract: the first i nodes are written.
use Rattle.jobs.specs.Job.{front, node_of}
use Rattle.tables.specs.Decode.{node}
use Rattle.table_blank.specs.Filled.{Filled}
use Rattle.table_blank.proofs.nodes.store_nodes.Given as goal

abbrev pub invariant-loop-i : goal.invariant-loop-i
invariant-loop-i l = Filled node 679 19 24 l.initial.s l.s l.i (front node_of l.nodes l.i)
