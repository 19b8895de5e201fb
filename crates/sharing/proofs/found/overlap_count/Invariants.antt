-- `sharing::found::overlap_count` meets its contract.
use mathlib.Core.Path.{◌≡◌}
use Prim.Native.Nat.{◌+◌, ◌-◌, ◌≤◌}
use Rattle.rules.specs.Table.{sum_of, up_from}
use Rattle.tables.specs.View.{view}
use Rattle.sharing.specs.Found.{meet_mark}
use Rattle.sharing.proofs.found.overlap_count.Given as goal

abbrev pub invariant-loop-t : goal.invariant-loop-t
invariant-loop-t l =
    (l.count ≤ l.t) × (sum_of (meet_mark (view l.s).job l.r.start l.r.end) (up_from 0 l.n) ≡ l.count + sum_of
    (meet_mark (view l.s).job l.r.start l.r.end)
    (up_from l.t (l.n - l.t)))
