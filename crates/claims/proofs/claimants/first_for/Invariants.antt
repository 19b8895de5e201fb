-- `claims::claimants::first_for` meets its contract.
use Prim.Native.Nat.{◌*◌}
use Rattle.tables.specs.View.{view}
use Rattle.claims.specs.Pairs.{FirstIn}
use Rattle.claims.proofs.claimants.first_for.Given as goal

abbrev pub invariant-loop-i : goal.invariant-loop-i
invariant-loop-i l = FirstIn (view l.s) l.l l.t.at (16 * l.n) (16 * l.i)
