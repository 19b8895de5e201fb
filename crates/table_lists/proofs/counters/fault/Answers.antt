-- `table_lists::counters::fault` meets its contract.
use mathlib.Core.Path.{sym}
use Rattle.table_lists.specs.Counters.{fault_loaded}
use Rattle.table_lists.proofs.counters.fault.Goals as goal

pub returns : goal.returns
returns c = sym (fault_loaded c.args.s.now)
