-- `check_ports::held::cells_ok` meets its contract.
use mathlib.Core.Path.{◌≡◌}
use Rattle.rules.specs.Table.{all}
use Rattle.rules.specs.Check.{cell_ok}
use Rattle.tables.specs.View.{view}
use Rattle.batches.specs.Cells.{cells_from}
use Rattle.check_ports.proofs.held.cells_ok.Given as goal

abbrev pub invariant-loop-i : goal.invariant-loop-i
invariant-loop-i l =
    all (cell_ok (view l.s).job l.b.rows) (cells_from 0 l.b.width l.b.segment l.b.first)
    ≡ all (cell_ok (view l.s).job l.b.rows) (cells_from l.i l.b.width l.b.segment l.b.first)
