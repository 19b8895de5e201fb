-- `claims::claimants::claimant_count` meets its contract.
use mathlib.Core.Path.{◌≡◌}
use Prim.Native.Nat.{◌+◌, ◌-◌, ◌*◌, ◌≤◌}
use lib.ListN.{length}
use Rattle.rules.specs.Table.{sum_of, up_from}
use Rattle.rules.specs.Shares.{claimants}
use Rattle.tables.specs.View.{view}
use Rattle.claims.specs.Pairs.{claim_mark}
use Rattle.claims.proofs.claimants.claimant_count.Given as goal

abbrev pub invariant-loop-i : goal.invariant-loop-i
invariant-loop-i l =
    (l.count ≤ 16 * l.i) × (length (claimants (view l.s) l.l) ≡ l.count + sum_of (claim_mark (view l.s) l.l)
    (up_from (16 * l.i) (16 * l.n - 16 * l.i)))
