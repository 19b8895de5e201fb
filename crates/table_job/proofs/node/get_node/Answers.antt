-- `table_job::node::get_node` meets its contract.
use Rattle.layout.specs.Cut.{cut}
use Rattle.table_job.specs.Node.{node_in, node_out}
use mathlib.Core.Path.{◌∙◌}
use borrow.Author.Rules.{rules}
use Rattle.table_job.proofs.node.get_node.Goals as goal

pub returns-then-k-gt2 : goal.returns-then-k-gt2
returns-then-k-gt2 c = c.no_node.ensures ∙ node_out c.args.r.now (search rules)

pub returns : goal.returns
unfolding cut
returns c =
    rw (c.kind_of.ensures, c.joined.ensures) (node_in c.args.r.now c.get_words.new.to (search rules) c.get_words.ensures)
