-- `source_steps::pack::take_each` meets its contract.
use mathlib.Core.Path.{◌≡◌}
use lib.ListN.{drop}
use Rattle.tables.specs.View.{view, machine_len}
use Rattle.source_steps.specs.Fronts.{Takes}
use Rattle.source_steps.proofs.pack.take_each.Given as goal

abbrev pub invariant-loop-i : goal.invariant-loop-i
invariant-loop-i l = Takes l.p.at l.n l.i (view l.initial.s) (view l.s) × (drop machine_len l.s ≡ drop machine_len l.initial.s)
