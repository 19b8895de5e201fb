-- `table_lists::counters::next` meets its contract.
use mathlib.Core.Path.{sym}
use Rattle.table_lists.specs.Counters.{next_loaded}
use Rattle.table_lists.proofs.counters.next.Goals as goal

pub returns : goal.returns
returns c = sym (next_loaded c.args.s.now)
