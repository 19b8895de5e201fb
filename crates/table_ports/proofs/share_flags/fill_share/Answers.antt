-- `table_ports::share_flags::fill_share` meets its contract.
use Rattle.table_ports.specs.Shares.{fill_leaves}
use borrow.Author.Rules.{rules}
use Rattle.table_ports.proofs.share_flags.fill_share.Goals as goal

pub returns : goal.returns
returns c =
    fill_leaves c.args.s.now (search rules) c.args.x.at (search rules) (search rules) c.load_share-q.result c.load_share-q.ensures
    c.pushed.result c.pushed.ensures c.store_share.new.s c.store_share.ensures
