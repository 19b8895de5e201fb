-- `sharing::shared::is_shared` meets its contract.
use mathlib.Core.Path.{◌≡◌}
use Prim.Native.Nat.{◌+◌, ◌*◌, ◌-◌, ◌≤◌}
use Rattle.rules.specs.Table.{sum_of, up_from}
use Rattle.tables.specs.View.{view}
use Rattle.sharing.specs.Found.{reach_of, pairs_of}
use Rattle.sharing.proofs.shared.is_shared.Given as goal

abbrev pub invariant-loop-l : goal.invariant-loop-l
invariant-loop-l l =
    (l.leaves ≤ l.l) × (l.pairs ≤ l.l * 16)
    × (sum_of (reach_of (view l.s).job l.segment) (up_from 0 l.n) ≡ l.leaves + sum_of (reach_of (view l.s).job l.segment) (up_from l.l (l.n - l.l)))
    × (sum_of (pairs_of (view l.s).job l.segment) (up_from 0 l.n) ≡ l.pairs + sum_of (pairs_of (view l.s).job l.segment) (up_from l.l (l.n - l.l)))
