-- `table_lists::active::store_active` meets its contract.
use borrow.Author.Rules.{rules}
use mathlib.Core.Path.{ap}
use lib.ListN.{length}
use Rattle.numbers.specs.Opt.{option_of}
use Rattle.tables.specs.Written.{active_written}
use Rattle.table_lists.specs.Active.{active_back}
use Rattle.table_lists.proofs.active.store_active.Goals as goal

pub returns : goal.returns
returns c =
    active_written c.args.s.now (search rules) c.args.k.at c.copy_from_slice.new.self (option_of c.args.x) (search rules) (ap length c.copy_from_slice.ensures.after)
    (rw (c.copy_from_slice.ensures.after, c.from.ensures, c.unwrap_or.ensures, c.is_some.ensures) (active_back c.args.x))
