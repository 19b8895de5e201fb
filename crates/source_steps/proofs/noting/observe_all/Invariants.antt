-- `source_steps::noting::observe_all` meets its contract: what is left in the set is to be looked at still; each turn takes the newest.
use Rattle.std.proofs.Common.{◌≡◌, length, drop}
use Rattle.inlet_set.specs.InletSet.{set_of}
use Rattle.tables.specs.View.{view, machine_len}
use Rattle.source_steps.specs.Noting.{Observing}
use Rattle.source_steps.proofs.noting.observe_all.Given as goal

abbrev pub invariant-loop-i : goal.invariant-loop-i
invariant-loop-i l = Observing l.p.at (set_of l.set) (view l.initial.s) (view l.s) × (drop machine_len l.s ≡ drop machine_len l.initial.s)

abbrev pub decreases-loop-i : goal.decreases-loop-i
decreases-loop-i l = length (set_of l.set)
