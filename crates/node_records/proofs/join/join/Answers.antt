-- `node_records::join::join` meets its contract.
use mathlib.Core.Path.{ap, ◌∙◌}
use mathlib.Core.List.{List}
use native.Mathlib.Omega.{arith}
use Rattle.rules.specs.Job as rule
use Rattle.jobs.specs.Job.{kind_of}
use Rattle.node_records.specs.Draft.{newest_of, draft_of, reading_of}
use Rattle.node_records.specs.Kids.{joined_of}
use Rattle.node_records.proofs.JoinLaws.{parents_front}
use Rattle.node_records.proofs.join.join.Goals as goal

pub returns-clause-result_value : goal.returns-clause-result_value
returns-clause-result_value c =
    let d = c.args.d.now in
    c.new_node.ensures.result_value ∙ ap
    (λ (ns : List rule.Node). rule.grows (reading_of d)
    (rule.new_node (joined_of (kind_of c.args.k) c.args.rows c.args.width) ns (newest_of d.free c.args.from) (draft_of d)))
    (parents_front d.nodes c.set_parents.new.nodes d.node_count d.node_count d.free c.args.from d.free_count c.requires.records_bound.1
    (omega arith) c.set_parents.ensures.nodes_len c.set_parents.ensures.value)
