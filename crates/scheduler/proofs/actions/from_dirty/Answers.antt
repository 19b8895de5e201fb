-- `scheduler::actions::from_dirty` meets its contract.
use Rattle.scheduler.specs.Turns.{none_first, one_first, pop_dirty, dirty_none, dirty_one}
use Rattle.tables.specs.View.{view}
use Rattle.numbers.specs.Opt.{option_of}
use mathlib.Core.Path.{sym, ap, ◌∙◌}
use Rattle.scheduler.proofs.actions.from_dirty.Goals as goal

pub from_splits-requires : goal.from_splits-requires
from_splits-requires c =
    record {
      ranged = c.requires.ranged;
      quiet = record {
        outputs = c.requires.s_value;
        news = c.requires.s_after;
        dirty =
            (none_first (view c.args.s.now).dirty (sym c.newest.ensures ∙ ap option_of c.in-None.is));
      };
    }

pub advance-requires : goal.advance-requires
advance-requires c =
    let u = pop_dirty c.in-Some.k (view c.args.s.now) (view c.pop.new.s) c.requires.ranged
    (one_first (view c.args.s.now).dirty c.in-Some.k (sym c.newest.ensures ∙ ap option_of c.in-Some.is)) c.pop.ensures.0 in
    record { ranged = u.0; s_value = rw c.pop.ensures.0 c.requires.s_value }

pub returns-in-None : goal.returns-in-None
returns-in-None c =
    record {
      s_after_2 = c.from_splits.ensures.s_after ∙ dirty_none (view c.args.s.now)
          (none_first (view c.args.s.now).dirty (sym c.newest.ensures ∙ ap option_of c.in-None.is));
      zeroes_inner = c.from_splits.ensures.zeroes_inner;
      s_unchanged = c.from_splits.ensures.s_unchanged;
    }

pub returns-in-Some : goal.returns-in-Some
returns-in-Some c =
    record {
      s_after_2 = dirty_one c.in-Some.k (view c.args.s.now) (view c.pop.new.s) (view c.advance.new.s)
          (one_first (view c.args.s.now).dirty c.in-Some.k (sym c.newest.ensures ∙ ap option_of c.in-Some.is)) c.pop.ensures.0
          (rw c.from.ensures at c.advance.ensures.0);
      zeroes_inner = tt;
      s_unchanged = c.advance.ensures.1 ∙ c.pop.ensures.1;
    }

pub invariant_of-advance : goal.invariant_of-advance
invariant_of-advance c =
    let u = pop_dirty c.in-Some.k (view c.args.s.now) (view c.pop.new.s) c.requires.ranged
    (one_first (view c.args.s.now).dirty c.in-Some.k (sym c.newest.ensures ∙ ap option_of c.in-Some.is)) c.pop.ensures.0 in
    record { below = rw c.from.ensures u.1 }
