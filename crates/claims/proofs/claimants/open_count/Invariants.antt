-- `claims::claimants::open_count` meets its contract.
use mathlib.Core.Path.{◌≡◌}
use Prim.Native.Nat.{◌+◌, ◌-◌, ◌*◌, ◌≤◌}
use Rattle.rules.specs.Table.{sum_of, up_from}
use Rattle.tables.specs.View.{view}
use Rattle.claims.specs.Pairs.{claim_mark}
use Rattle.claims.proofs.claimants.open_count.Given as goal

abbrev pub invariant-loop-y : goal.invariant-loop-y
invariant-loop-y l =
    (l.count + 16 * l.fn.i.at ≤ l.y) ×
    (sum_of (claim_mark (view l.s) l.l) (up_from (16 * l.fn.i.at) 16) ≡ l.count + sum_of (claim_mark (view l.s) l.l)
    (up_from l.y (16 * l.fn.i.at + 16 - l.y)))
