-- `lines::digits::decimal` meets its contract: the digits that are there and those of what is left.
use mathlib.Core.List.{[]}
use Rattle.lines.specs.Digits.{below}
use Rattle.rules.specs.Session.{digits}
use lib.ListN.{length, drop}
use Prim.Native.Nat.{◌≤◌, ◌<◌}
use mathlib.Core.Path.{◌≡◌}
use Rattle.lines.proofs.digits.decimal.Given as goal

abbrev pub invariant-loop-left : goal.invariant-loop-left
invariant-loop-left l = (1 ≤ l.from) × (l.from ≤ 10) × (length l.bytes ≡ 10) × (l.left < below l.from)
    × (digits 10 l.n [] ≡ digits l.from l.left (drop l.from l.bytes))

abbrev pub decreases-loop-left : goal.decreases-loop-left
decreases-loop-left l = l.left
