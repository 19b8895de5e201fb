-- `pipelines::readers::drop_inlets` meets its contract.
use mathlib.Core.Path.{refl, ◌∙◌}
use Rattle.rules.specs.Machine.{inlets_at}
use Rattle.tables.specs.View.{view}
use Rattle.pipelines.specs.Readers.{dropping_next, dropping_end, inlet_same, inlet_below}
use Rattle.pipelines.proofs.readers.drop_inlets.Goals as goal

pub invariant_of-drop_inlet : goal.invariant_of-drop_inlet
invariant_of-drop_inlet c =
    record {
      below = inlet_below (view c.args.s.now).inlets _ _ _ _ _ c.loop-i.invariant.0.0 c.inlet-x.ensures refl c.requires.all
          (rw (← c.inlet_count-i-end.ensures.value) c.loop-i-test.true);
    }

pub loop-i-preserved : goal.loop-i-preserved
loop-i-preserved c = (
  dropping_next (inlets_at (view c.args.s.now) c.args.p.at) _ _ (view c.args.s.now) _ _ (rw (← c.inlet_count-i-end.ensures.value) c.loop-i-test.true)
      (inlet_same (view c.args.s.now).inlets _ _ _ _ _ c.loop-i.invariant.0.0 c.inlet-x.ensures refl) c.drop_inlet.ensures.0
      c.loop-i.invariant.0,
  c.drop_inlet.ensures.1 ∙ c.loop-i.invariant.1,
)

pub returns : goal.returns
returns c = (
  dropping_end (inlets_at (view c.args.s.now) c.args.p.at) c.loop-i.i (view c.args.s.now) _
      (rw (← c.inlet_count-i-end.ensures.value) c.loop-i-test.false) c.loop-i.invariant.0,
  c.loop-i.invariant.1,
)
