-- `slots::outputs::hold_batches` meets its contract.
use mathlib.Core.Path.{◌≡◌}
use lib.ListN.{drop}
use Rattle.tables.specs.View.{view, machine_len}
use Rattle.slots.specs.Outputs.{Holding}
use Rattle.slots.proofs.outputs.hold_batches.Given as goal

abbrev pub invariant-loop-i : goal.invariant-loop-i
invariant-loop-i l = Holding l.x.at l.t l.i (view l.initial.s) (view l.s) × (drop machine_len l.s ≡ drop machine_len l.initial.s)
