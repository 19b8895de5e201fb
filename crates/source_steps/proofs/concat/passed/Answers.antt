-- `source_steps::concat::passed` meets its contract.
use mathlib.Core.Path.{◌≡◌, sym, ◌∙◌}
use native.Mathlib.Omega.{arith}
use Rattle.rules.specs.Machine.{shows}
use Rattle.source_steps.specs.Passed.{at_none, at_open, at_past}
use Rattle.tables.specs.View.{view}
use Rattle.source_steps.specs.Inlets.{port_bound}
use Rattle.source_steps.proofs.concat.passed.Goals as goal

pub shows-requires : goal.shows-requires
shows-requires c =
    record {
      i_in_bounds = omega (arith, c.requires.n_value);
      i_bound = port_bound (view c.args.s.now) c.args.p.at c.loop-at.at c.requires.all (omega (arith, c.requires.n_value));
    }

pub returns-then-not-has_ended : goal.returns-then-not-has_ended
returns-then-not-has_ended c =
    record {
      value = sym (c.loop-at.invariant ∙ at_open (shows (view c.args.s.now) c.args.p.at) c.args.n c.loop-at.at (omega arith)
          (rw (← c.shows.ensures) (sym c.has_ended.ensures ∙ c.if-not-has_ended.true)));
      upper_bound = omega arith;
    }

pub loop-at-preserved : goal.loop-at-preserved
loop-at-preserved c =
    c.loop-at.invariant ∙ at_past (shows (view c.args.s.now) c.args.p.at) c.args.n c.loop-at.at (omega arith)
    (rw (← c.shows.ensures) (sym c.has_ended.ensures ∙ c.if-not-has_ended.false))

pub returns : goal.returns
returns c =
    let e : c.loop-at.at ≡ c.args.n = omega arith in
    record { value = rw e at (sym (c.loop-at.invariant ∙ at_none (shows (view c.args.s.now) c.args.p.at) c.args.n c.loop-at.at (omega arith))); upper_bound = omega arith }
