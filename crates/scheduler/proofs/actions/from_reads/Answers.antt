-- `scheduler::actions::from_reads` meets its contract.
use Rattle.scheduler.specs.Turns.{none_first, one_first, news_none, new_known, news_one}
use Rattle.tables.specs.View.{view}
use Rattle.numbers.specs.Opt.{option_of}
use mathlib.Core.Path.{sym, ap, ◌∙◌}
use Rattle.scheduler.proofs.actions.from_reads.Goals as goal

pub from_dirty-requires : goal.from_dirty-requires
from_dirty-requires c =
    record {
      ranged = c.requires.ranged;
      s_value = c.requires.s_value;
      s_after = (none_first (view c.args.s.now).news (sym c.next_new.ensures ∙ ap option_of c.in-None.is));
    }

pub segment_of-g-requires : goal.segment_of-g-requires
segment_of-g-requires c =
    record {
      r_in_bounds = rw c.from.ensures (new_known c.in-Some.r (view c.args.s.now) c.requires.ranged
          (one_first (view c.args.s.now).news c.in-Some.r (sym c.next_new.ensures ∙ ap option_of c.in-Some.is)));
    }

pub returns-in-None : goal.returns-in-None
returns-in-None c =
    record {
      s_after = c.from_dirty.ensures.s_after_2 ∙ news_none (view c.args.s.now)
          (none_first (view c.args.s.now).news (sym c.next_new.ensures ∙ ap option_of c.in-None.is));
      zeroes_inner = c.from_dirty.ensures.zeroes_inner;
      s_unchanged = c.from_dirty.ensures.s_unchanged;
    }

pub returns-in-Some : goal.returns-in-Some
returns-in-Some c =
    record {
      s_after = news_one c.in-Some.r c.segment_of-g.result (view c.args.s.now) (view c.pop_new.new.s)
          (one_first (view c.args.s.now).news c.in-Some.r (sym c.next_new.ensures ∙ ap option_of c.in-Some.is))
          (rw c.from.ensures at c.segment_of-g.ensures) c.pop_new.ensures.0;
      zeroes_inner = tt;
      s_unchanged = c.pop_new.ensures.1;
    }
