use mathlib.Core.Path.{◌∙◌}
use Rattle.waking.specs.Ready.{enqueue_full}
use Rattle.tables.specs.View.{view}
use Rattle.waking.proofs.ready.enqueue.Goals as goal

pub returns-then-n-ge96 : goal.returns-then-n-ge96
returns-then-n-ge96 c =
    (c.set_fault.ensures.0 ∙ enqueue_full (view c.args.s.now) c.args.p.at c.len-n.result c.len-n.ensures c.if-n-ge96.true, c.set_fault.ensures.1)
