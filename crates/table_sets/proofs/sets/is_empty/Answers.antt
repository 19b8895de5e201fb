-- `table_sets::sets::is_empty` meets its contract.
use borrow.Author.Rules.{rules}
use Rattle.table_sets.specs.Sets.{none_says}
use Rattle.table_sets.proofs.sets.is_empty.Goals as goal

pub returns : goal.returns
returns g c = none_says g.T.Sets.laws c.args.s.now (search rules) c.FROM.result c.FROM.ensures c.args.p.at (search rules)
