-- `node_records::join::differ` meets its contract. The invariant: no child so far differs.
use Rattle.std.proofs.Common.{◌≡◌, drop}
use Rattle.rules.specs.Table.{any}
use Rattle.node_records.specs.Kids.{kid_nodes, differs}
use Rattle.node_records.proofs.join.differ.Given as goal

abbrev pub invariant-loop-c : goal.invariant-loop-c
invariant-loop-c l = any (differs l.rows l.v) (kid_nodes l.nodes l.kids) ≡ any (differs l.rows l.v) (kid_nodes l.nodes (drop l.c-index l.kids))
