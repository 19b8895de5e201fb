-- `check_job::job::job_ok` meets its contract.
use mathlib.Core.Path.{sym, ◌∙◌}
use Rattle.tables.specs.View.{view}
use Rattle.check_job.specs.Stack.{stack_of}
use Rattle.check_job.specs.Job.{counts_fail, nodes_fail, splits_decide}
use Rattle.check_job.proofs.job.job_ok.Goals as goal
use Rattle.check_job.proofs.job.job_ok.Goals.{else-counts_fit-via-then-counts_fit+then-ends+else-splits_fit, else-counts_fit-via-then-counts_fit+else-ends, else-counts_fit-via-else-counts_fit}

pub returns-then-splits_fit-clause-ok_value : goal.returns-then-splits_fit-clause-ok_value
returns-then-splits_fit-clause-ok_value c =
    sym c.if-splits_fit.true ∙ splits_decide (view c.args.s.now).job c.walk-w.ensures.rows_fit (sym c.counts_fit.ensures ∙ c.if-counts_fit.true)
    (stack_of c.walk-w.result) c.walk-w.ensures.result_value c.ends.result c.ends.ensures c.splits_fit.result c.if-ends.true c.splits_fit.ensures

pub returns-else-counts_fit-clause-ok_value : goal.returns-else-counts_fit-clause-ok_value
returns-else-counts_fit-clause-ok_value c =
    let j = (view c.args.s.now).job in
    let v = c.walk-w.ensures.rows_fit in elim c.else-counts_fit.branch [
      | else-counts_fit-via-then-counts_fit+then-ends+else-splits_fit w ↦
          sym w.if-splits_fit.false ∙ splits_decide j v (sym c.counts_fit.ensures ∙ w.if-counts_fit.true) (stack_of c.walk-w.result)
          c.walk-w.ensures.result_value w.ends.result w.ends.ensures w.splits_fit.result w.if-ends.true w.splits_fit.ensures
      | else-counts_fit-via-then-counts_fit+else-ends w ↦
          nodes_fail j v (sym c.counts_fit.ensures ∙ w.if-counts_fit.true) (stack_of c.walk-w.result) c.walk-w.ensures.result_value w.ends.result
          w.ends.ensures w.if-ends.false
      | else-counts_fit-via-else-counts_fit w ↦ counts_fail j v (sym c.counts_fit.ensures ∙ w.if-counts_fit.false)
    ]
