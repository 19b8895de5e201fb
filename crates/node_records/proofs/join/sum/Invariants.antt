-- `node_records::join::sum` meets its contract. The invariant: the total and the sum over the children from here on come to the sum over all.
use Rattle.std.proofs.Common.{◌≡◌, ◌+◌, ◌*◌, ◌≤◌, drop}
use Rattle.rules.specs.Table.{sum_of}
use Rattle.node_records.specs.Kids.{kid_nodes, measure_of}
use Rattle.node_records.proofs.join.sum.Given as goal

abbrev pub invariant-loop-c : goal.invariant-loop-c
invariant-loop-c l =
    record {
      few : l.total ≤ 4294967296 * l.c-index;
      is : sum_of (measure_of l.rows) (kid_nodes l.nodes l.kids) ≡ l.total + sum_of (measure_of l.rows) (kid_nodes l.nodes (drop l.c-index l.kids));
    }
