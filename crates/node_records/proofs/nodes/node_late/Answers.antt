-- `node_records::nodes::node_late` meets its contract.
use lib.Dec.{eqb}
use Rattle.rules.specs.Table.{is_empty}
use Rattle.numbers.specs.Tests.{or_none}
use Rattle.node_records.proofs.nodes.node_late.Goals as goal

pub returns : goal.returns
unfolding is_empty
returns c = or_none (eqb c.args.d.now.slots 0)
