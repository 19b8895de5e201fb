-- `check_job::split_ranges::split_fits` meets its contract.
use native.Mathlib.Omega.{arith}
use Rattle.tables.specs.Decode.{split}
use Rattle.check_job.specs.Splits.{split_many, split_turned, split_past, runs_decide}
use Rattle.check_job.proofs.split_ranges.split_fits.Goals as goal
use Rattle.check_job.proofs.split_ranges.split_fits.Goals.{
  then-n-gt16-via-then-n-gt16,
  then-n-gt16-via-else-n-gt16+then-end-start,
  then-n-gt16-via-else-n-gt16+else-end-start+then-rows-end,
}

pub returns-then-n-gt16 : goal.returns-then-n-gt16
returns-then-n-gt16 c = elim c.then-n-gt16.branch [
  | then-n-gt16-via-then-n-gt16 w ↦ split_many c.args.rows c.args.r.now (rw c.count-n.ensures at w.if-n-gt16.true)
  | then-n-gt16-via-else-n-gt16+then-end-start w ↦
      split_turned c.args.rows (split c.args.r.now) c.start-start.result c.end-end.result c.start-start.ensures c.end-end.ensures w.if-end-start.true
  | then-n-gt16-via-else-n-gt16+else-end-start+then-rows-end w ↦
      split_past c.args.rows (split c.args.r.now) c.start-start.result c.end-end.result c.start-start.ensures c.end-end.ensures
      w.if-end-start.false w.if-rows-end.true
]

pub returns : goal.returns
returns c =
    runs_decide c.args.rows c.args.r.now c.count-n.result c.start-start.result c.end-end.result c.runs_fit.result c.count-n.ensures
    c.start-start.ensures c.end-end.ensures (omega arith) (omega arith) (omega arith) (rw c.from.ensures at c.runs_fit.ensures)
