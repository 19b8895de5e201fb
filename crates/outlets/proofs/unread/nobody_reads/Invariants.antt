-- `outlets::unread::nobody_reads` meets its contract.
use mathlib.Core.Path.{◌≡◌}
use Prim.Native.Nat.{◌+◌, ◌-◌, ◌*◌}
use Rattle.rules.specs.Scan.{is_unread}
use Rattle.tables.specs.View.{view}
use Rattle.outlets.specs.Unread.{none_of}
use Rattle.outlets.proofs.unread.nobody_reads.Given as goal

abbrev pub invariant-loop-l : goal.invariant-loop-l
invariant-loop-l l = is_unread (view l.s) l.p ≡ none_of (view l.s) l.p (72 + 16 * l.l) (384 - 16 * l.l)
