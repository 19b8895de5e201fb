-- `source_steps::taking::take_share` meets its contract.
use borrow.Author.Rules.{rules}
use native.Mathlib.Omega.{arith}
use mathlib.Core.Path.{ap, ◌∙◌}
use Rattle.rules.specs.Operators.{final}
use Rattle.rules.specs.Machine.{queue_at}
use Rattle.tables.specs.View.{view}
use Rattle.source_steps.specs.Front.{front_none, idle_length, share_whole, share_front}
use Rattle.source_steps.proofs.taking.take_share.Goals as goal

pub returns-then-not-is_full : goal.returns-then-not-is_full
returns-then-not-is_full c =
    let e = front_none c.args.x.at (queue_at (view c.args.s.now) c.args.x.at) (view c.args.s.now)
    (idle_length (queue_at (view c.args.s.now) c.args.x.at) c.is_full.result c.is_full.ensures (c.if-not-is_full.true)) in
    record {
      result_value = rw e;
      width_bound = omega arith;
      becomes = (rw e c.fault_if.ensures.0, c.fault_if.ensures.1);
    }

pub returns : goal.returns
returns c =
    let e = share_front (view c.args.s.now) c.args.x.at _ (share_whole c.args.s.now c.args.x.at c.is_full.result (search rules) c.args.x.shared
    c.args.x.below
    c.is_full.ensures (c.if-not-is_full.false)) in record {
      result_value = rw e (ap final (c.trimmed.ensures.result_value ∙ c.whole-b.ensures));
      width_bound = c.trimmed.ensures.width_bound;
      becomes = (rw e c.clear_share.ensures.0, c.clear_share.ensures.1);
    }
