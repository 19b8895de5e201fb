-- `outlets::unread::nobody_reads` meets its contract.
use mathlib.Core.Path.{sym, ◌∙◌}
use Rattle.tables.specs.View.{view}
use Rattle.outlets.specs.Unread.{unread_is, leaf_not, leaf_is, leaf_end}
use Rattle.outlets.proofs.unread.nobody_reads.Goals as goal

pub loop-l-init : goal.loop-l-init
loop-l-init c =
    unread_is (view c.args.s.now) c.args.p c.requires.le_p c.requires.job_ok

pub returns-then-not-none_at : goal.returns-then-not-none_at
returns-then-not-none_at c =
    sym (c.loop-l.invariant ∙ leaf_is (view c.args.s.now) c.args.p c.loop-l.l c.none_at.result c.loop-l-test.true c.none_at.ensures
    (c.if-not-none_at.true))

pub loop-l-preserved : goal.loop-l-preserved
loop-l-preserved c =
    c.loop-l.invariant ∙ leaf_not (view c.args.s.now) c.args.p c.loop-l.l c.none_at.result c.loop-l-test.true c.none_at.ensures
    (c.if-not-none_at.false)

pub returns : goal.returns
returns c =
    sym (c.loop-l.invariant ∙ leaf_end (view c.args.s.now) c.args.p c.loop-l.l c.loop-l-test.false)
