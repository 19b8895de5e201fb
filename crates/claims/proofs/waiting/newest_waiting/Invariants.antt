-- `claims::waiting::newest_waiting` meets its contract.
use Rattle.tables.specs.View.{view}
use Rattle.claims.specs.Waiting.{NewestIn}
use Rattle.claims.proofs.waiting.newest_waiting.Given as goal

abbrev pub invariant-loop-i : goal.invariant-loop-i
invariant-loop-i l = NewestIn (view l.s) l.l l.t.at l.i
