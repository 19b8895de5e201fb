-- `reach::cut::keeps` meets its contract.
use Prim.Native.Nat.{◌+◌}
use native.Mathlib.Omega.{arith}
use Rattle.rules.specs.Plan as plan
use Rattle.jobs.specs.Job.{run_of}
use Rattle.tables.specs.View.{view}
use Rattle.reach.specs.Meeting.{some_start, some_here, some_next, some_end}
use Rattle.reach.proofs.cut.keeps.Goals as goal

pub loop-i-init : goal.loop-i-init
loop-i-init c =
    some_start (view c.args.s.now).job c.args.n c.args.t _ _ _ c.split_start-base.ensures c.first_row-at.ensures c.node_rows-rows.ensures

pub returns-then-meets_run : goal.returns-then-meets_run
returns-then-meets_run c =
    some_here c.split_start-base.result c.first_row-at.result (c.first_row-at.result + c.node_rows-rows.result)
    (plan.split_of (view c.args.s.now).job c.args.t).runs
    c.loop-i.i c.meets_run.result _ (run_of c.run_at.result) (omega (arith, c.run_count-all.ensures.value)) c.loop-i.invariant c.run_at.ensures
    c.meets_run.ensures c.if-meets_run.true

pub loop-i-preserved : goal.loop-i-preserved
loop-i-preserved c =
    some_next c.split_start-base.result c.first_row-at.result (c.first_row-at.result + c.node_rows-rows.result)
    (plan.split_of (view c.args.s.now).job c.args.t).runs c.loop-i.i c.meets_run.result _ (run_of c.run_at.result)
    (omega (arith, c.run_count-all.ensures.value)) c.loop-i.invariant c.run_at.ensures c.meets_run.ensures c.if-meets_run.false

pub returns : goal.returns
returns c =
    some_end c.split_start-base.result c.first_row-at.result (c.first_row-at.result + c.node_rows-rows.result)
    (plan.split_of (view c.args.s.now).job c.args.t).runs
    c.loop-i.i _ (omega (arith, c.run_count-all.ensures.value)) c.loop-i.invariant
