-- `reach::cut::kept_count` meets its contract.
use borrow.Author.Rules.{rules}
use Prim.Native.Nat.{◌+◌}
use native.Mathlib.Omega.{arith}
use Rattle.rules.specs.Plan.{split_of}
use Rattle.jobs.specs.Job.{run_of}
use Rattle.tables.specs.View.{view}
use Rattle.reach.specs.Meeting.{count_start, count_next, count_end}
use Rattle.numbers.specs.Bit.{bit_most}
use Rattle.reach.proofs.cut.kept_count.Goals as goal

pub loop-i-init : goal.loop-i-init
loop-i-init c = (
  search rules,
  count_start (view c.args.s.now).job c.args.n c.args.t _ _ _ c.split_start-base.ensures c.first_row-at.ensures
      c.node_rows-rows.ensures,
)

pub overflow_add-count : goal.overflow_add-count
overflow_add-count c =
    omega (arith, c.from-count.ensures, bit_most c.meets_run.result, c.run_count-all.ensures.upper_bound, c.loop-i.invariant.0)

pub loop-i-preserved : goal.loop-i-preserved
loop-i-preserved c = (
  omega (arith, c.from-count.ensures, bit_most c.meets_run.result, c.loop-i.invariant.0),
  count_next c.split_start-base.result c.first_row-at.result
      (c.first_row-at.result + c.node_rows-rows.result) (split_of (view c.args.s.now).job c.args.t).runs c.loop-i.i _ _ _ c.meets_run.result
      (run_of c.run_at-x.result) (omega (arith, c.run_count-all.ensures.value)) c.loop-i.invariant.1 c.run_at-x.ensures c.meets_run.ensures
      c.from-count.ensures,
)

pub returns : goal.returns
returns c =
    record {
      value = count_end c.split_start-base.result c.first_row-at.result (c.first_row-at.result + c.node_rows-rows.result)
          (split_of (view c.args.s.now).job c.args.t).runs c.loop-i.i c.loop-i.count _ (omega (arith, c.run_count-all.ensures.value))
          c.loop-i.invariant.1;
      upper_bound = omega (arith, c.run_count-all.ensures.upper_bound, c.loop-i.invariant.0);
    }
