-- `node_records::nodes::any_other_rows` meets its contract. The invariant: none so far is one.
use Rattle.std.proofs.Common.{◌≡◌, map, drop}
use Rattle.rules.specs.Job as rule
use Rattle.rules.specs.Table.{any}
use Rattle.jobs.specs.Job.{node_of}
use Rattle.node_records.proofs.nodes.any_other_rows.Given as goal

abbrev pub invariant-loop-x : goal.invariant-loop-x
invariant-loop-x l = any (rule.other_rows l.g l.n) (map node_of l.nodes) ≡ any (rule.other_rows l.g l.n) (map node_of (drop l.x-index l.nodes))
