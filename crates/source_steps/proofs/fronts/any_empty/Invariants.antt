-- `source_steps::fronts::any_empty` meets its contract.
use mathlib.Core.Path.{◌≡◌}
use lib.ListN.{drop}
use Rattle.rules.specs.Table.{any}
use Rattle.rules.specs.Machine.{inlets_at}
use Rattle.tables.specs.View.{view}
use Rattle.source_steps.specs.Fronts.{idle}
use Rattle.source_steps.proofs.fronts.any_empty.Given as goal

abbrev pub invariant-loop-i : goal.invariant-loop-i
invariant-loop-i l = any (idle (view l.s)) (inlets_at (view l.s) l.p.at) ≡ any (idle (view l.s)) (drop l.i (inlets_at (view l.s) l.p.at))
