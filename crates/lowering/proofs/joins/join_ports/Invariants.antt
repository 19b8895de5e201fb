-- `lowering::joins::join_ports` meets its contract.
use mathlib.Core.Path.{◌≡◌}
use lib.ListN.{take, drop}
use Rattle.tables.specs.View.{view, machine_len}
use Rattle.lowering.specs.Joins.{Joining}
use Rattle.lowering.proofs.joins.join_ports.Given as goal

abbrev pub invariant-loop-i : goal.invariant-loop-i
invariant-loop-i l =
    Joining l.q.at (take l.n l.ports) l.i (view l.initial.s) (view l.s) × (drop machine_len l.s ≡ drop machine_len l.initial.s)
