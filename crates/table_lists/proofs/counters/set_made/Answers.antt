-- `table_lists::counters::set_made` meets its contract.
use borrow.Author.Rules.{rules}
use Rattle.tables.specs.Written.{made_written}
use Rattle.table_lists.proofs.counters.set_made.Goals as goal

pub returns : goal.returns
returns c = made_written c.args.s.now (search rules) c.args.n
