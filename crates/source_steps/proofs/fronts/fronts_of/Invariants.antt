-- `source_steps::fronts::fronts_of` meets its contract.
use mathlib.Core.Path.{◌≡◌}
use mathlib.Core.List.{map}
use lib.ListN.{length, take}
use Rattle.rules.specs.Machine.{inlets_at}
use Rattle.rules.specs.Drive.{front_of}
use Rattle.batches.specs.Batch.{batch_of}
use Rattle.tables.specs.View.{view}
use Rattle.source_steps.proofs.fronts.fronts_of.Given as goal

abbrev pub invariant-loop-i : goal.invariant-loop-i
invariant-loop-i l =
    (length l.batches ≡ 4) × (map batch_of (take l.i l.batches) ≡ map (front_of (view l.s)) (take l.i (inlets_at (view l.s) l.p.at)))
