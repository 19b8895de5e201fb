-- `source_steps::concat::step` meets its contract.
use mathlib.Core.Path.{◌∙◌, refl}
use native.Mathlib.Omega.{arith}
use Rattle.tables.specs.View.{view}
use Rattle.source_steps.specs.Touch.{touched_fits}
use Rattle.source_steps.specs.Inlets.{port_bound, ports_bound}
use Rattle.source_steps.specs.Concat.{step_end, step_front, step_state}
use Rattle.source_steps.proofs.concat.step.Goals as goal

pub returns-then-i-n : goal.returns-then-i-n
returns-then-i-n c =
    let e = step_end (view c.args.s.now) c.args.p.at c.args.i c.inlet_count-n.result c.inlet_count-n.ensures.value c.if-i-n.true in
    record { result_value = rw (← e); width_bound = omega arith; becomes = (rw (← e), refl) }

pub inlet-x-requires-clause-i_in_bounds : goal.inlet-x-requires-clause-i_in_bounds
inlet-x-requires-clause-i_in_bounds c = omega (arith, c.inlet_count-n.ensures.value, c.requires.i_in_bounds, c.if-i-n.false)

pub touch-requires : goal.touch-requires
touch-requires c =
    record {
      set_fits = touched_fits (view c.args.s.now) c.args.p.at c.inlet_count-n.result c.requires.fits c.requires.live c.inlet_count-n.ensures.value
          c.inlet_count-n.ensures.upper_bound;
      i_bound = omega (arith, c.inlet_count-n.ensures.value, c.inlet_count-n.ensures.upper_bound, c.requires.i_in_bounds, c.if-i-n.false);
    }

pub invariant_of-take_front : goal.invariant_of-take_front
invariant_of-take_front c =
    record {
      below = rw c.inlet-x.ensures (port_bound (view c.args.s.now) c.args.p.at c.args.i
          (ports_bound (view c.args.s.now) c.args.p.at c.requires.fits c.requires.live)
          (omega (arith, c.inlet_count-n.ensures.value, c.requires.i_in_bounds, c.if-i-n.false)));
    }

pub returns : goal.returns
returns c =
    record {
      result_value = step_front (view c.args.s.now) (view c.touch.new.s) c.args.p.at c.args.i c.inlet_count-n.result c.inlet-x.result
          c.inlet_count-n.ensures.value c.if-i-n.false c.inlet-x.ensures c.touch.ensures.0 _ c.take_front.ensures.result_value;
      width_bound = c.take_front.ensures.width_bound;
      becomes = (
        step_state (view c.args.s.now) (view c.touch.new.s) c.args.p.at c.args.i c.inlet_count-n.result c.inlet-x.result
            c.inlet_count-n.ensures.value c.if-i-n.false c.inlet-x.ensures c.touch.ensures.0 _ c.take_front.ensures.becomes.0,
        c.take_front.ensures.becomes.1 ∙ c.touch.ensures.1,
      );
    }
