-- `scheduler::actions::from_ready` meets its contract.
use Rattle.scheduler.specs.Turns.{none_first, one_first, ready_rests, pop_ready, ready_runs, quiet_ready}
use Rattle.rules.specs.Scan as rule
use lib.ListN.{drop}
use Rattle.tables.specs.View.{view}
use Rattle.numbers.specs.Opt.{option_of}
use mathlib.Core.Path.{sym, ap, ◌∙◌}
use Rattle.scheduler.proofs.actions.from_ready.Goals as goal

pub run_next-requires : goal.run_next-requires
run_next-requires c =
    let u = pop_ready c.in-Some.p (view c.args.s.now) (view c.pop.new.s) c.requires.ranged
    (one_first (view c.args.s.now).ready c.in-Some.p (sym c.newest.ensures ∙ ap option_of c.in-Some.is))
    c.pop.ensures.0 in record {
      ranged = u.0;
      quiet = quiet_ready (drop 1 (view c.args.s.now).ready) (view c.args.s.now) (view c.pop.new.s) c.requires.quiet c.pop.ensures.0;
    }

pub returns-in-None : goal.returns-in-None
returns-in-None c =
    record {
      s_after = ap rule.answers c.at_rest.ensures.s_after ∙ ready_rests (view c.args.s.now)
          (none_first (view c.args.s.now).ready (sym c.newest.ensures ∙ ap option_of c.in-None.is));
      zeroes_inner = c.at_rest.ensures.zeroes;
      s_unchanged = c.at_rest.ensures.s_unchanged;
    }

pub returns-in-Some : goal.returns-in-Some
returns-in-Some c =
    record {
      s_after = ready_runs c.in-Some.p (view c.args.s.now) (view c.pop.new.s) (view c.run_next.new.s)
          (one_first (view c.args.s.now).ready c.in-Some.p (sym c.newest.ensures ∙ ap option_of c.in-Some.is)) c.pop.ensures.0
          (rw c.from.ensures at c.run_next.ensures.0);
      zeroes_inner = tt;
      s_unchanged = c.run_next.ensures.1 ∙ c.pop.ensures.1;
    }

pub invariant_of-run_next : goal.invariant_of-run_next
invariant_of-run_next c =
    let u = pop_ready c.in-Some.p (view c.args.s.now) (view c.pop.new.s) c.requires.ranged
    (one_first (view c.args.s.now).ready c.in-Some.p (sym c.newest.ensures ∙ ap option_of c.in-Some.is))
    c.pop.ensures.0 in record { below = rw c.from.ensures u.1 }
