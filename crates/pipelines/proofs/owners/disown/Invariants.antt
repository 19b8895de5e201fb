-- `pipelines::owners::disown` meets its contract.
use mathlib.Core.Path.{◌≡◌}
use lib.ListN.{drop}
use Rattle.tables.specs.View.{view, machine_len}
use Rattle.pipelines.specs.Owners.{Disowned}
use Rattle.pipelines.proofs.owners.disown.Given as goal

abbrev pub invariant-loop-i : goal.invariant-loop-i
invariant-loop-i l = Disowned l.p l.i (view l.initial.s) (view l.s) × (drop machine_len l.s ≡ drop machine_len l.initial.s)
