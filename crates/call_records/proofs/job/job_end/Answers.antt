-- `call_records::job::job_end` meets its contract: what is behind the records of all bytes is behind those from `at` on.
use Rattle.call_records.specs.Job.{ahead_next, ahead_stop, ahead_short}
use Rattle.records.specs.Read.{record_of}
use mathlib.Core.Path.{sym, ◌∙◌}
use Rattle.call_records.proofs.job.job_end.Goals as goal

pub returns-in_default : goal.returns-in_default
returns-in_default c =
    ahead_short c.args.b.now c.loop-at.at c.loop-at.invariant.1 c.loop-at.invariant.0 (sym c.loop-at-test.true ∙ c.at_call.ensures)
    (rw c.in_default.is at c.next_record.ensures.result_value)

pub loop-at-preserved : goal.loop-at-preserved
loop-at-preserved c =
    let e = c.in-Some.ensures.read_ends in (
      e.1,
      ahead_next c.args.b.now c.loop-at.at c.loop-at.invariant.1 (sym c.loop-at-test.true ∙ c.at_call.ensures)
          (record_of c.args.b.now c.in-Some.field-0-0) c.in-Some.next c.in-Some.ensures.result_value e.0,
    )

pub returns : goal.returns
returns c =
    ahead_stop c.args.b.now c.loop-at.at c.loop-at.invariant.1 c.loop-at.invariant.0 (sym c.loop-at-test.false ∙ c.at_call.ensures)
