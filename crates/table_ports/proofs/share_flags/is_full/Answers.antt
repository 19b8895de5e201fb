-- `table_ports::share_flags::is_full` meets its contract.
use Rattle.table_ports.specs.Shares.{share_is}
use borrow.Author.Rules.{rules}
use Rattle.table_ports.proofs.share_flags.is_full.Goals as goal

pub returns : goal.returns
returns c =
    rw c.is_empty.ensures
    (share_is c.args.s.now (search rules) c.args.x.at (search rules) (search rules) c.load_share.result c.load_share.ensures)
