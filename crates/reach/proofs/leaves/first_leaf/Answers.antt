-- `reach::leaves::first_leaf_lem` meets its contract.
use borrow.Author.Rules.{rules}
use native.Mathlib.Omega.{arith}
use Rattle.tables.specs.View.{view}
use Rattle.reach.specs.Leaves.{first_start, first_here, first_next, first_end, names_is}
use Rattle.reach.proofs.leaves.first_leaf.Goals as goal

pub loop-i-init : goal.loop-i-init
loop-i-init c = first_start (view c.args.s.now).job c.args.l.at

pub returns-then-names : goal.returns-then-names
returns-then-names c =
    record {
      value = first_here (view c.args.s.now).job c.args.l.at c.loop-i.i (omega (arith, c.node_count-n.ensures.value)) c.loop-i.invariant
          (names_is (view c.args.s.now).job _ _ _ _ _ c.node_segment-segment.ensures c.names.ensures c.if-names.true);
      upper_bound = omega (arith, c.node_count-n.ensures.upper_bound);
    }

pub loop-i-preserved : goal.loop-i-preserved
loop-i-preserved c =
    first_next (view c.args.s.now).job c.args.l.at c.loop-i.i (omega (arith, c.node_count-n.ensures.value)) c.loop-i.invariant
    (names_is (view c.args.s.now).job _ _ _ _ _ c.node_segment-segment.ensures c.names.ensures c.if-names.false)

pub returns : goal.returns
returns c =
    record {
      value = first_end (view c.args.s.now).job c.args.l.at c.loop-i.i (omega (arith, c.node_count-n.ensures.value)) c.loop-i.invariant;
      upper_bound = search rules;
    }
