-- `node_records::join::set_parents` meets its contract. The invariant: setting the parents from here on gives what setting all gives.
use Rattle.std.proofs.Common.{◌≡◌, length, map, drop}
use Rattle.rules.specs.Job as rule
use Rattle.jobs.specs.Job.{node_of}
use Rattle.node_records.proofs.join.set_parents.Given as goal

abbrev pub invariant-loop-c : goal.invariant-loop-c
invariant-loop-c l =
    record {
      size : length l.nodes ≡ length l.fn.nodes;
      is : rule.set_parents l.p l.kids (map node_of l.fn.nodes) ≡ rule.set_parents l.p (drop l.c-index l.kids) (map node_of l.nodes);
    }
