-- `scheduler::actions::from_splits` meets its contract.
use Rattle.scheduler.specs.Turns.{splits_none, splits_full, splits_one}
use Rattle.numbers.specs.Opt.{option_of}
use Rattle.order.specs.Steps.{found_below}
use Rattle.tables.specs.View.{view}
use native.Mathlib.Omega.{arith}
use mathlib.Core.Path.{sym, ap, ◌∙◌}
use Rattle.scheduler.proofs.actions.from_splits.Goals as goal

pub returns-then-split_count-from : goal.returns-then-split_count-from
returns-then-split_count-from c =
    record {
      s_after = c.from_ready.ensures.s_after ∙ splits_none (view c.args.s.now)
          (omega (arith, c.if-split_count-from.true, c.split_count.ensures.value, c.from.ensures, c.next.ensures));
      zeroes_inner = c.from_ready.ensures.zeroes_inner;
      s_unchanged = c.from_ready.ensures.s_unchanged;
    }

pub returns-in-None : goal.returns-in-None
returns-in-None c =
    record {
      s_after = c.from_ready-in-None.ensures.s_after ∙ splits_full (view c.args.s.now)
          (omega (arith, c.if-split_count-from.false, c.split_count.ensures.value, c.from.ensures, c.next.ensures))
          (sym c.first_free.ensures ∙ ap option_of c.in-None.is);
      zeroes_inner = c.from_ready-in-None.ensures.zeroes_inner;
      s_unchanged = c.from_ready-in-None.ensures.s_unchanged;
    }

pub returns-in-Some : goal.returns-in-Some
returns-in-Some c =
    record {
      s_after = splits_one c.in-Some.k (view c.args.s.now) (view c.activate.new.s)
          (omega (arith, c.if-split_count-from.false, c.split_count.ensures.value, c.from.ensures, c.next.ensures))
          (sym c.first_free.ensures ∙ ap option_of c.in-Some.is) c.activate.ensures.0;
      zeroes_inner = tt;
      s_unchanged = c.activate.ensures.1;
    }

pub invariant_of-activate : goal.invariant_of-activate
invariant_of-activate c =
    let m = view c.args.s.now in
    record {
      below = omega (
        arith,
        found_below m 0 m.job.slots c.in-Some.k (sym c.first_free.ensures ∙ ap option_of c.in-Some.is),
        c.requires.ranged.job.slots_high,
      );
    }
