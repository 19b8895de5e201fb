-- `claims::waiting::newest_waiting` meets its contract.
use Prim.Native.Nat.{◌-◌}
use native.Mathlib.Omega.{arith}
use Rattle.tables.specs.View.{view}
use Rattle.claims.specs.Waiting.{newest_here, newest_next, newest_none}
use Rattle.claims.proofs.waiting.newest_waiting.Goals as goal

pub returns-then-waits : goal.returns-then-waits
returns-then-waits c =
    newest_here (view c.args.s.now) _ _ c.loop-i.i (c.loop-i.i - 1) _ (omega arith) c.loop-i.invariant
    c.waits.ensures c.if-waits.true

pub loop-i-preserved : goal.loop-i-preserved
loop-i-preserved c =
    newest_next (view c.args.s.now) _ _ c.loop-i.i (c.loop-i.i - 1) _ (omega arith) c.loop-i.invariant c.waits.ensures c.if-waits.false

pub returns : goal.returns
returns c = newest_none (view c.args.s.now) _ _ c.loop-i.i c.loop-i-test.false c.loop-i.invariant
