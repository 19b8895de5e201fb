-- `table_lists::counters::set_next` meets its contract.
use borrow.Author.Rules.{rules}
use Rattle.tables.specs.Written.{next_written}
use Rattle.table_lists.proofs.counters.set_next.Goals as goal

pub returns : goal.returns
returns c = next_written c.args.s.now (search rules) c.args.n
