-- `table_pipes::inlets::load_inlets` meets its contract: after i turns the first i ports are those of the first i inlets.
use mathlib.Core.Path.{◌≡◌}
use lib.ListN.{length, take}
use Rattle.rules.specs.Machine.{inlets_at}
use Rattle.tables.specs.View.{view}
use Rattle.table_pipes.proofs.inlets.load_inlets.Given as goal

abbrev pub invariant-loop-i : goal.invariant-loop-i
invariant-loop-i l = (length l.ports ≡ 23) × (take l.i l.ports ≡ take l.i (inlets_at (view l.s) l.p.at))
