-- `check_ports::held::cell_ok` meets its contract.
use mathlib.Core.Path.{◌≡◌}
use Prim.Native.Nat.{◌+◌}
use lib.ListN.{drop}
use Rattle.rules.specs.Table.{any}
use Rattle.tables.specs.View.{view}
use Rattle.check_ports.specs.Batches.{holds_rows}
use Rattle.check_ports.proofs.held.cell_ok.Given as goal

abbrev pub invariant-loop-l : goal.invariant-loop-l
invariant-loop-l l =
    (l.end ≡ l.row + l.rows) × (any (holds_rows l.g l.end) (view l.s).job.nodes ≡ any (holds_rows l.g l.end) (drop l.l (view l.s).job.nodes))
