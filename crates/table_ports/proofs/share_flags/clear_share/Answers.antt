-- `table_ports::share_flags::clear_share` meets its contract.
use Rattle.table_ports.specs.Shares.{drain_leaves}
use borrow.Author.Rules.{rules}
use Rattle.table_ports.proofs.share_flags.clear_share.Goals as goal

pub returns : goal.returns
returns c =
    drain_leaves c.args.s.now (search rules) c.args.x.at (search rules) (search rules) c.new.result c.new.ensures c.store_share.new.s
    c.store_share.ensures
