-- `claims::claimants::claimant_count` meets its contract.
use borrow.Author.Rules.{rules}
use mathlib.Core.Path.{◌∙◌}
use Prim.Native.Nat.{◌*◌}
use native.Mathlib.Omega.{arith}
use Rattle.tables.specs.View.{view}
use Rattle.reach.specs.Sums.{sum_end, sum_start}
use Rattle.claims.specs.Pairs.{claim_mark, count_is, few_splits}
use Rattle.claims.specs.Leaves.{leaf_next}
use Rattle.claims.proofs.claimants.claimant_count.Goals as goal

pub loop-i-init : goal.loop-i-init
loop-i-init c = (
  search rules,
  count_is (view c.args.s.now) c.args.l (16 * c.node_count-n.result) (few_splits _ (search rules))
      (omega (arith, c.node_count-n.ensures.value)) ∙ sum_start (claim_mark (view c.args.s.now) c.args.l) (16 * c.node_count-n.result),
)

pub loop-i-preserved : goal.loop-i-preserved
loop-i-preserved c = (
  omega (arith, c.loop-i.invariant.0, c.leaf_count-count.ensures.upper_bound),
  leaf_next (claim_mark (view c.args.s.now) c.args.l) c.node_count-n.result c.loop-i.i
      _ _ _ c.loop-i-test.true c.loop-i.invariant.1 c.leaf_count-count.ensures.value,
)

pub returns : goal.returns
returns c =
    sum_end (claim_mark (view c.args.s.now) c.args.l) (16 * c.node_count-n.result) (16 * c.loop-i.i) _ _ (omega (arith, c.loop-i-test.false))
    c.loop-i.invariant.1
