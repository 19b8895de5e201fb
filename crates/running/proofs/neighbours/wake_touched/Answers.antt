-- `running::neighbours::wake_touched` meets its contract.
use mathlib.Core.Path.{refl, ◌∙◌}
use Rattle.rules.specs.Table.{get}
use Rattle.inlet_set.specs.InletSet.{set_of}
use Rattle.table_pipes.specs.Inlets.{inlets_of}
use Rattle.tables.specs.View.{view}
use Rattle.running.specs.Neighbours.{waking_next, waking_end}
use Rattle.running.proofs.neighbours.wake_touched.Goals as goal

pub loop-k-init : goal.loop-k-init
loop-k-init c = (refl, refl)

pub loop-k-preserved : goal.loop-k-preserved
loop-k-preserved c = (
  waking_next (get 0 (inlets_of c.args.xs)) (set_of c.args.t) _ _ _ (view c.args.s.now) _ _ c.len-n.ensures.value c.loop-k-test.true
      c.get.ensures c.wake_inlet.ensures.0 c.loop-k.invariant.0,
  c.wake_inlet.ensures.1 ∙ c.loop-k.invariant.1,
)

pub returns : goal.returns
returns c = (
  waking_end (get 0 (inlets_of c.args.xs)) (set_of c.args.t) _ c.loop-k.k (view c.args.s.now) _ c.len-n.ensures.value c.loop-k-test.false
      c.loop-k.invariant.0,
  c.loop-k.invariant.1,
)
