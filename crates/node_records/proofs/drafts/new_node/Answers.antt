-- `node_records::drafts::new_node` meets its contract.
use Rattle.node_records.proofs.DraftLaws.{reading_added}
use Rattle.node_records.proofs.drafts.new_node.Goals as goal

pub returns-clause-result_value : goal.returns-clause-result_value
returns-clause-result_value c = reading_added c.args.d.now c.args.x c.args.k c.requires.fine c.requires.records_bound.0 c.requires.records_bound.1
