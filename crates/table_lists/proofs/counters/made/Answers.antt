-- `table_lists::counters::made` meets its contract.
use mathlib.Core.Path.{sym}
use Rattle.table_lists.specs.Counters.{made_loaded}
use Rattle.table_lists.proofs.counters.made.Goals as goal

pub returns : goal.returns
returns c = sym (made_loaded c.args.s.now)
