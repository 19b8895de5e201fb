-- `sharing::found::overlap_count` meets its contract.
use borrow.Author.Rules.{rules}
use mathlib.Core.Path.{ap, ◌∙◌}
use Prim.Native.Nat.{ℕ}
use native.Mathlib.Omega.{arith}
use lib.ListN.{length}
use Rattle.rules.specs.Table.{sum_of, up_from}
use Rattle.numbers.specs.Bit.{bit_most}
use Rattle.layout.specs.Numbers.{mark}
use Rattle.tables.specs.View.{view}
use Rattle.reach.specs.Sums.{sum_next, sum_end}
use Rattle.sharing.specs.Found.{meets, meet_mark, passing}
use Rattle.sharing.proofs.found.overlap_count.Goals as goal

pub loop-t-preserved : goal.loop-t-preserved
loop-t-preserved c = (
  omega (arith, c.loop-t.invariant.0, bit_most c.meets.result, c.from-count.ensures),
  sum_next (meet_mark (view c.args.s.now).job c.args.r.start c.args.r.end) c.split_count-n.result c.loop-t.t c.loop-t.count c.from-count.result _
      (search rules) c.loop-t.invariant.1 (c.from-count.ensures ∙ ap mark c.meets.ensures),
)

pub returns : goal.returns
returns c =
    record {
      value = sum_end (meet_mark (view c.args.s.now).job c.args.r.start c.args.r.end) c.split_count-n.result c.loop-t.t c.loop-t.count _
          (search rules) c.loop-t.invariant.1 ∙ ap (λ (n : ℕ). sum_of (meet_mark (view c.args.s.now).job c.args.r.start c.args.r.end) (up_from 0 n))
          c.split_count-n.ensures.value ∙ passing (meets (view c.args.s.now).job c.args.r.start c.args.r.end)
          (up_from 0 (length (view c.args.s.now).job.splits));
      upper_bound = omega (arith, c.split_count-n.ensures.upper_bound, c.loop-t.invariant.0);
    }
