-- `check_lists::first::none_before` meets its contract.
use borrow.Author.Rules.{rules}
use Rattle.tables.specs.View.{view}
use Rattle.reach.specs.Leaves.{names_is}
use Rattle.check_job.specs.Alone.{leaf_below}
use Rattle.check_lists.specs.First.{first_start, first_named, first_next, first_end}
use Rattle.check_lists.proofs.first.none_before.Goals as goal

pub loop-l-init : goal.loop-l-init
loop-l-init c = first_start (view c.args.s.now).job c.args.g

pub returns-then-names : goal.returns-then-names
returns-then-names c =
    first_named (view c.args.s.now) c.args.g c.loop-l.l c.requires.g_value c.loop-l-test.true c.loop-l.invariant
    (names_is (view c.args.s.now).job _ _ _ _ _ c.node_segment-segment.ensures c.names.ensures c.if-names.true)

pub loop-l-preserved : goal.loop-l-preserved
loop-l-preserved c =
    first_next (view c.args.s.now).job c.args.g c.loop-l.l c.loop-l-test.true (leaf_below (view c.args.s.now).job c.args.g c.requires.g_value)
    c.loop-l.invariant (names_is (view c.args.s.now).job _ _ _ _ _ c.node_segment-segment.ensures c.names.ensures c.if-names.false)

pub returns : goal.returns
returns c =
    first_end (view c.args.s.now) c.args.g c.loop-l.l c.requires.g_value c.loop-l-test.false (search rules) c.loop-l.invariant
