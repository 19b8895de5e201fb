-- `source_steps::concat::test` meets its contract.
use mathlib.Core.Path.{refl, ◌∙◌}
use native.Mathlib.Omega.{arith}
use Rattle.tables.specs.View.{view}
use Rattle.source_steps.specs.Touch.{touched_fits}
use Rattle.source_steps.specs.Inlets.{ports_bound}
use Rattle.source_steps.specs.Concat.{test_ready, test_state}
use Rattle.source_steps.proofs.concat.test.Goals as goal

pub passed-at-requires : goal.passed-at-requires
passed-at-requires c =
    record {
      i_le_n = omega (arith, c.inlet_count-n.ensures.value, c.requires.i_in_bounds);
      n_value = c.inlet_count-n.ensures.value;
      all = ports_bound (view c.args.s.now) c.args.p.at c.requires.fits c.requires.live;
    }

pub answer-ready-requires : goal.answer-ready-requires
answer-ready-requires c =
    record {
      n_bound = c.inlet_count-n.ensures.upper_bound;
      n_value = c.inlet_count-n.ensures.value;
      all = ports_bound (view c.args.s.now) c.args.p.at c.requires.fits c.requires.live;
    }

pub touch_from-requires : goal.touch_from-requires
touch_from-requires c =
    record {
      set_fits = rw c.store_source.ensures.0 (touched_fits (view c.args.s.now) c.args.p.at c.inlet_count-n.result c.requires.fits c.requires.live
          c.inlet_count-n.ensures.value c.inlet_count-n.ensures.upper_bound);
      n_bound = omega (arith, c.min.ensures, c.inlet_count-n.ensures.upper_bound);
    }

pub returns : goal.returns
returns c =
    record {
      result_value = test_ready (view c.args.s.now) c.args.p.at c.args.i c.inlet_count-n.result c.passed-at.result c.inlet_count-n.ensures.value
          c.passed-at.ensures.value _ c.answer-ready.ensures;
      becomes = (
        test_state (view c.args.s.now) c.args.p.at c.args.i c.inlet_count-n.result c.passed-at.result c.inlet_count-n.ensures.value
            c.passed-at.ensures.value (view c.store_source.new.s) _ _ c.min.result refl (omega (arith, c.min.ensures)) c.store_source.ensures.0
            c.touch_from.ensures.0,
        c.touch_from.ensures.1 ∙ c.store_source.ensures.1,
      );
    }
