-- `running::neighbours::wake_touched` meets its contract.
use mathlib.Core.Path.{◌≡◌}
use mathlib.Core.List.{reverse}
use lib.ListN.{drop}
use Rattle.rules.specs.Table.{get}
use Rattle.inlet_set.specs.InletSet.{set_of}
use Rattle.table_pipes.specs.Inlets.{inlets_of}
use Rattle.tables.specs.View.{view, machine_len}
use Rattle.running.specs.Neighbours.{Waking}
use Rattle.running.proofs.neighbours.wake_touched.Given as goal

abbrev pub invariant-loop-k : goal.invariant-loop-k
invariant-loop-k l =
    Waking (get 0 (inlets_of l.xs)) (reverse (set_of l.t)) l.k (view l.initial.s) (view l.s) × (drop machine_len l.s ≡ drop machine_len l.initial.s)
