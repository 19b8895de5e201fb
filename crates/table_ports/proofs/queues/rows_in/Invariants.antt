-- `table_ports::queues::rows_in` meets its contract.
use Prim.Native.Nat.{◌+◌, ◌*◌, ◌≤◌}
use mathlib.Core.Path.{◌≡◌}
use lib.ListN.{drop}
use Rattle.rules.specs.Port.{row_sum}
use Rattle.rules.specs.Machine.{queue_at}
use Rattle.tables.specs.View.{view}
use Rattle.table_ports.proofs.queues.rows_in.Given as goal

-- what is counted, each batch with fewer than 2^32 rows, and what is left
abbrev pub invariant-loop-i : goal.invariant-loop-i
invariant-loop-i l = (l.rows ≤ l.i * 4294967295) × (row_sum (queue_at (view l.s) l.x.at) ≡ l.rows + row_sum (drop l.i (queue_at (view l.s) l.x.at)))
