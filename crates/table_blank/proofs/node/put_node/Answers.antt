-- `table_blank::node::put_node` meets its contract.
use Rattle.table_blank.specs.Node.{node_back}
use borrow.Author.Rules.{rules}
use Rattle.table_blank.proofs.node.put_node.Goals as goal

pub returns : goal.returns
returns c =
    node_back c.args.r.now c.put_words.new.r c.copy_from_slice.new.self c.args.x c.kind_number.result c.low.result c.high.result (search rules) (search rules)
    c.put_words.ensures c.low.ensures c.high.ensures c.copy_from_slice.ensures.after c.kind_number.ensures.result_value c.kind_number.ensures.upper_bound
