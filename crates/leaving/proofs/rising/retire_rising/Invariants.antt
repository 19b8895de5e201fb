-- `leaving::rising::retire_rising` meets its contract.
use mathlib.Core.Path.{◌≡◌}
use lib.ListN.{length, drop}
use Rattle.rules.specs.Pipelines.{by_number}
use Rattle.order.specs.Ranged.{Ranged}
use Rattle.tables.specs.View.{view, machine_len}
use Rattle.leaving.specs.Going.{going, retire_rising}
use Rattle.leaving.proofs.rising.retire_rising.Given as goal

abbrev pub invariant-loop-p : goal.invariant-loop-p
invariant-loop-p l =
    Ranged (view l.s) × (retire_rising l.k (view l.s) ≡ retire_rising l.k (view l.initial.s)) × (drop machine_len l.s ≡ drop machine_len l.initial.s)

abbrev pub decreases-loop-p : goal.decreases-loop-p
decreases-loop-p l = length (by_number (view l.s).pipes (going (view l.s) l.k))
