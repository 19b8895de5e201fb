-- `source_steps::pack::take_each` meets its contract.
use mathlib.Core.Path.{refl, ◌∙◌}
use native.Mathlib.Omega.{arith}
use Rattle.tables.specs.View.{view}
use Rattle.source_steps.specs.Fronts.{takes_start, takes_bound, takes_there, takes_fit, takes_queue, takes_inlet, takes_next, takes_end}
use Rattle.source_steps.proofs.pack.take_each.Goals as goal

pub loop-i-init : goal.loop-i-init
loop-i-init c =
    (takes_start (view c.args.s.now) c.args.p.at c.args.n c.requires.taking, refl)

pub inlet-x-requires-clause-i_in_bounds : goal.inlet-x-requires-clause-i_in_bounds
inlet-x-requires-clause-i_in_bounds c = rw c.loop-i.invariant.0.inlets (omega (arith, c.inlet_count-count.ensures.value))

pub invariant_of-take_rows : goal.invariant_of-take_rows
invariant_of-take_rows c =
    record {
      below = takes_bound (view c.args.s.now) (view c.loop-i.s) c.args.p.at c.args.n c.loop-i.i c.inlet-x.result c.loop-i.invariant.0
          (omega (arith, c.inlet_count-count.ensures.value)) c.inlet-x.ensures;
    }

pub take_rows-requires : goal.take_rows-requires
take_rows-requires c =
    let u = takes_there (view c.args.s.now) (view c.loop-i.s) c.args.p.at c.args.n
    c.loop-i.i c.inlet-x.result c.loop-i.invariant.0 (omega (arith, c.inlet_count-count.ensures.value)) c.inlet-x.ensures in let v = takes_fit
    (view c.args.s.now) (view c.loop-i.s) c.args.p.at c.args.n c.loop-i.i c.inlet-x.result c.loop-i.invariant.0 (omega (arith, c.inlet_count-count.ensures.value))
    c.inlet-x.ensures in record { nonzero = u; x_value = v }

pub observe-requires : goal.observe-requires
observe-requires c =
    record {
      packing = takes_queue (view c.args.s.now) (view c.loop-i.s) c.args.p.at c.args.n c.loop-i.i c.inlet-x.result c.loop-i.invariant.0
          (omega (arith, c.inlet_count-count.ensures.value)) c.inlet-x.ensures _ c.take_rows.ensures.0;
      i_in_bounds = takes_inlet (view c.args.s.now) (view c.loop-i.s) c.args.p.at c.args.n c.loop-i.i c.inlet-x.result c.loop-i.invariant.0
          (omega (arith, c.inlet_count-count.ensures.value)) c.inlet-x.ensures _ c.take_rows.ensures.0;
    }

pub loop-i-preserved : goal.loop-i-preserved
loop-i-preserved c = (
  takes_next (view c.args.s.now) (view c.loop-i.s) c.args.p.at c.args.n c.loop-i.i c.inlet-x.result c.loop-i.invariant.0
      (omega (arith, c.inlet_count-count.ensures.value)) c.inlet-x.ensures _ _ c.take_rows.ensures.0 c.observe.ensures.0,
  c.observe.ensures.1 ∙ c.take_rows.ensures.1 ∙
      c.loop-i.invariant.1,
)

pub returns : goal.returns
returns c = (
  takes_end (view c.args.s.now) (view c.loop-i.s) c.args.p.at c.args.n c.loop-i.i c.loop-i.invariant.0
      (omega (arith, c.inlet_count-count.ensures.value)),
  c.loop-i.invariant.1,
)
