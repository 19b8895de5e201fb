-- `table_ports::idle::idle_in` meets its contract.
use mathlib.Core.Path.{sym}
use Rattle.table_ports.specs.Idle.{empty_length}
use Rattle.table_ports.proofs.idle.idle_in.Goals as goal

pub returns : goal.returns
returns c = rw c.queue_len.ensures (sym (empty_length _))
