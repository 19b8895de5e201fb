-- `table_pipes::inlets::inlet_bytes` meets its contract: after i turns the bytes hold the first i ports.
use mathlib.Core.Path.{◌≡◌}
use lib.ListN.{get_or, take}
use Rattle.table_pipes.specs.Inlets.{ports_in}
use Rattle.table_pipes.proofs.inlets.inlet_bytes.Given as goal

abbrev pub invariant-loop-i : goal.invariant-loop-i
invariant-loop-i l = (get_or l.r 0 0 ≡ l.x.len) × (take l.i (ports_in l.r) ≡ take l.i l.x.ports)
