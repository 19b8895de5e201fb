-- `session::feed::skips` meets its contract.
use Rattle.session.specs.Feeding.{skips_fed, skips_left}
use lib.ListN.{length-take}
use native.Mathlib.Omega.{arith}
use borrow.Author.Rules.{rules}
use Rattle.session.proofs.feed.skips.Goals as goal

pub slice_bounds-open-end : goal.slice_bounds-open-end
slice_bounds-open-end c = simp length-take (omega arith)

pub returns : goal.returns
returns c =
    record {
      value = skips_fed c.args.input.now c.args.at c.args.size c.args.state.now _ _ _ c.open-there.result c.open-before.result c.open-there.ensures
          c.open-before.ensures (search rules) c.args.w c.tell_verdict-all.result c.tell_verdict-front.result c.long_told-whole.result
          c.tell_verdict-all.ensures c.tell_verdict-front.ensures c.long_told-whole.ensures;
      left = skips_left c.args.input.now c.args.at c.args.size c.args.state.now _ _ _ c.open-there.result c.open-before.result c.open-there.ensures
          c.open-before.ensures (search rules);
    }
