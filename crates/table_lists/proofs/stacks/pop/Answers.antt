-- `table_lists::stacks::pop` meets its contract.
use borrow.Author.Rules.{rules}
use lib.ListN.{drop}
use Rattle.table_lists.specs.Stacks.{part_becomes}
use Rattle.table_lists.proofs.stacks.pop.Goals as goal

pub returns : goal.returns
returns g c =
    part_becomes g.T.Stack.laws c.args.s.now c.FROM.result c.TO.result c.FROM.ensures c.TO.ensures (drop 1) c.pop.new.r (search rules) c.pop.auto.r c.pop.ensures
