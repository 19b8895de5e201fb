-- `sharing::shared::is_shared` meets its contract.
use borrow.Author.Rules.{rules}
use native.Mathlib.Omega.{arith}
use mathlib.Core.Path.{◌∙◌}
use borrow.Author.Tests.{lt-ltb}
use Rattle.tables.specs.View.{view}
use Rattle.reach.specs.Sums.{sum_next}
use Rattle.sharing.specs.Found.{reach_of, pairs_of, two_reach, pairs_decide}
use Rattle.sharing.proofs.shared.is_shared.Goals as goal

pub loop-l-preserved : goal.loop-l-preserved
loop-l-preserved c = (
  omega (arith, c.found_at-f.ensures.leaves_bound.0, c.loop-l.invariant.0),
  omega (arith, c.found_at-f.ensures.leaves_bound.1, c.loop-l.invariant.1),
  sum_next (reach_of (view c.args.s.now).job c.node_segment-segment.result) c.node_count-n.result c.loop-l.l c.loop-l.leaves c.found_at-f.result.leaves _
      (search rules) c.loop-l.invariant.2 c.found_at-f.ensures.leaves_value,
  sum_next (pairs_of (view c.args.s.now).job c.node_segment-segment.result) c.node_count-n.result c.loop-l.l c.loop-l.pairs c.found_at-f.result.pairs _
      (search rules)
      c.loop-l.invariant.3 c.found_at-f.ensures.pairs_value,
)

pub returns-then-leaves-gt1 : goal.returns-then-leaves-gt1
returns-then-leaves-gt1 c =
    lt-ltb 1 c.loop-l.leaves c.if-leaves-gt1.true ∙ two_reach (view c.args.s.now).job c.args.g c.node_count-n.result c.node_segment-segment.result c.loop-l.l c.loop-l.leaves c.loop-l.pairs
    c.node_count-n.ensures.value
    c.node_segment-segment.ensures c.loop-l-test.false c.loop-l.invariant.2 c.if-leaves-gt1.true

pub returns-else-leaves-gt1 : goal.returns-else-leaves-gt1
returns-else-leaves-gt1 c =
    pairs_decide (view c.args.s.now).job c.args.g c.node_count-n.result c.node_segment-segment.result c.loop-l.l c.loop-l.leaves c.loop-l.pairs
    c.node_count-n.ensures.value c.node_segment-segment.ensures c.loop-l-test.false c.loop-l.invariant.2 c.if-leaves-gt1.false c.loop-l.invariant.3
