-- `source_steps::taking::take_bounded` meets its contract.
use mathlib.Core.Path.{ap, ◌∙◌}
use native.Mathlib.Omega.{arith}
use Rattle.rules.specs.Operators.{final}
use Rattle.rules.specs.Machine.{queue_at}
use Rattle.tables.specs.View.{view}
use Rattle.source_steps.specs.Front.{front_none, front_some}
use Rattle.source_steps.proofs.taking.take_bounded.Goals as goal

pub returns-then-queue_len-eq0 : goal.returns-then-queue_len-eq0
returns-then-queue_len-eq0 c =
    let e = front_none c.args.x.at (queue_at (view c.args.s.now) c.args.x.at) (view c.args.s.now) (omega (arith, c.queue_len.ensures)) in
    record {
      result_value = rw e;
      width_bound = omega arith;
      becomes = (rw e c.fault_if.ensures.0, c.fault_if.ensures.1);
    }

pub returns : goal.returns
returns c =
    let e = front_some c.args.x.at (queue_at (view c.args.s.now) c.args.x.at) (view c.args.s.now) (omega (arith, c.queue_len.ensures)) in
    record {
      result_value = rw e (ap final (c.trimmed.ensures.result_value ∙ c.batch_at-b.ensures.result_value));
      width_bound = c.trimmed.ensures.width_bound;
      becomes = (rw e c.pop_batch.ensures.0, c.pop_batch.ensures.1);
    }
