-- `reach::cut::kept_count` meets its contract.
use mathlib.Core.Path.{◌≡◌}
use Prim.Native.Nat.{◌+◌, ◌≤◌}
use lib.ListN.{length}
use Rattle.rules.specs.Plan.{kept, split_of}
use Rattle.tables.specs.View.{view}
use Rattle.reach.specs.Meeting.{parts_from}
use Rattle.reach.proofs.cut.kept_count.Given as goal

abbrev pub invariant-loop-i : goal.invariant-loop-i
invariant-loop-i l =
    (l.count ≤ l.i) × (length (kept (view l.s).job l.n l.t) ≡ l.count + length
    (parts_from l.base l.at (l.at + l.rows) (split_of (view l.s).job l.t).runs l.i))
