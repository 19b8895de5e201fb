-- `pipelines::readers::drop_inlets` meets its contract.
use mathlib.Core.Path.{◌≡◌}
use lib.ListN.{drop}
use Rattle.rules.specs.Machine.{inlets_at}
use Rattle.tables.specs.View.{view, machine_len}
use Rattle.pipelines.specs.Readers.{Dropping}
use Rattle.pipelines.proofs.readers.drop_inlets.Given as goal

abbrev pub invariant-loop-i : goal.invariant-loop-i
invariant-loop-i l =
    Dropping (inlets_at (view l.initial.s) l.p.at) l.i (view l.initial.s) (view l.s) × (drop machine_len l.s ≡ drop machine_len l.initial.s)
