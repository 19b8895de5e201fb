-- `table_lists::stacks::remove` meets its contract.
use borrow.Author.Rules.{rules}
use Rattle.rules.specs.Pipelines.{without}
use Rattle.table_lists.specs.Stacks.{part_becomes}
use Rattle.table_lists.proofs.stacks.remove.Goals as goal

pub returns : goal.returns
returns g c =
    part_becomes g.T.Stack.laws c.args.s.now c.FROM.result c.TO.result c.FROM.ensures c.TO.ensures (without c.args.x) c.remove.new.r (search rules) c.remove.auto.r c.remove.ensures
