-- `lines::columns::columns` meets its contract: the columns still to be put come to the same as all.
use Rattle.batches.specs.Cells.{cells_from}
use Rattle.lines.specs.Page.{page, puts}
use Rattle.batches.specs.Batch.{batch_of}
use Rattle.rules.specs.Session.{column}
use mathlib.Core.List.{flat_map}
use mathlib.Core.Path.{◌≡◌}
use Rattle.lines.proofs.columns.columns.Given as goal

abbrev pub invariant-loop-i : goal.invariant-loop-i
invariant-loop-i l =
    puts (flat_map column (cells_from l.i l.b.width l.b.segment l.b.first)) (page l.out l.done)
    ≡ puts (flat_map column (batch_of l.b).cells) (page l.initial.out l.initial.done)
