-- `reach::cut::keeps` meets its contract.
use mathlib.Core.Path.{◌≡◌}
use mathlib.Core.Bool.{not}
use Prim.Native.Nat.{◌+◌}
use Rattle.rules.specs.Table.{is_empty}
use Rattle.rules.specs.Plan as plan
use Rattle.tables.specs.View.{view}
use Rattle.reach.specs.Meeting.{parts_from}
use Rattle.reach.proofs.cut.keeps.Given as goal

abbrev pub invariant-loop-i : goal.invariant-loop-i
invariant-loop-i l = (plan.keeps (view l.s).job l.n l.t ≡ not (is_empty (parts_from l.base l.at (l.at + l.rows) (plan.split_of (view l.s).job l.t).runs l.i)))
