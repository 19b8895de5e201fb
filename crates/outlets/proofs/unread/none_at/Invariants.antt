-- `outlets::unread::none_at` meets its contract.
use mathlib.Core.Path.{◌≡◌}
use Prim.Native.Nat.{◌+◌, ◌-◌, ◌*◌}
use Rattle.tables.specs.View.{view}
use Rattle.outlets.specs.Unread.{none_of, none_at}
use Rattle.outlets.proofs.unread.none_at.Given as goal

abbrev pub invariant-loop-x : goal.invariant-loop-x
invariant-loop-x l = none_at (view l.s) l.p l.fn.l.at ≡ none_of (view l.s) l.p l.x (72 + 16 * l.fn.l.at + 16 - l.x)
