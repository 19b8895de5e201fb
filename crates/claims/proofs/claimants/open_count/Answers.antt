-- `claims::claimants::open_count` meets its contract.
use mathlib.Core.Path.{ap, ◌∙◌}
use Prim.Native.Nat.{◌+◌, ◌*◌}
use native.Mathlib.Omega.{arith}
use Rattle.layout.specs.Numbers.{mark}
use Rattle.tables.specs.View.{view}
use Rattle.reach.specs.Sums.{sum_next}
use Rattle.claims.specs.Pairs.{claim_mark, mark_few}
use Rattle.claims.specs.Leaves.{claimant_of, count_past}
use Rattle.claims.proofs.claimants.open_count.Goals as goal

pub loop-y-preserved : goal.loop-y-preserved
loop-y-preserved c = (
  omega (arith, c.loop-y.invariant.0, mark_few c.is_open.result _ c.from-count.ensures),
  sum_next (claim_mark (view c.args.s.now) c.args.l) (16 * c.args.i.at + 16) c.loop-y.y _ _ _ (omega (arith, c.split_count-n.ensures.upper_bound))
      c.loop-y.invariant.1
      (c.from-count.ensures ∙ ap mark (claimant_of (view c.args.s.now).job (view c.args.s.now).finished c.args.l c.args.i.at
      c.loop-y.y _ _ _ (omega (arith, c.loop-y.auto.y, c.split_count-n.ensures.upper_bound)) c.requires.i_value
      (omega (arith, c.loop-y.auto.y, c.split_count-n.ensures.value, c.split_count-n.ensures.upper_bound)) c.reach_of-reach.ensures.start_value
      c.reach_of-reach.ensures.end_value c.is_open.ensures)),
)

pub returns : goal.returns
returns c =
    record {
      value = count_past (view c.args.s.now) c.args.l c.args.i.at c.loop-y.y c.loop-y.count _ (omega (arith, c.split_count-n.ensures.value))
          (omega (arith, c.loop-y.auto.y-end (omega arith), c.split_count-n.ensures.upper_bound)) c.loop-y.invariant.1;
      upper_bound = omega (arith, c.loop-y.auto.y-end (omega arith), c.loop-y.invariant.0, c.split_count-n.ensures.upper_bound);
    }
