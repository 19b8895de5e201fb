-- `table_queues::number_ring::first` meets its contract.
use Rattle.tables.specs.View.{news_from}
use Rattle.table_queues.specs.Entries.{first_some}
use borrow.Author.Rules.{rules}
use Rattle.table_queues.proofs.number_ring.first.Goals as goal

pub returns : goal.returns
returns c =
    first_some 0 c.entry.result (news_from c.args.r.now) (search rules) c.entry.ensures
