-- `check_state::labels::labels_ok` meets its contract. The invariant: the numbers from the i-th on decide.
use mathlib.Core.Path.{◌≡◌}
use Prim.Native.Nat.{◌≤◌}
use Rattle.rules.specs.Check.{labels_from, labels_ok}
use Rattle.tables.specs.View.{labels_at}
use Rattle.check_state.specs.Labels.{left}
use Rattle.check_state.proofs.labels.labels_ok.Given as goal

abbrev pub invariant-loop-i : goal.invariant-loop-i
invariant-loop-i l = (l.least ≤ 24) × (labels_ok (labels_at l.s) ≡ labels_from l.least (left l.s l.n l.i))
