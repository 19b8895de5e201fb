-- `source_steps::fronts::any_empty` meets its contract.
use native.Mathlib.Omega.{arith}
use Rattle.rules.specs.Machine.{inlets_at}
use Rattle.tables.specs.View.{view}
use Rattle.source_steps.specs.Inlets.{port_bound}
use Rattle.source_steps.specs.Fronts.{idle, any_here, any_later, any_end}
use Rattle.source_steps.proofs.fronts.any_empty.Goals as goal

pub invariant_of-is_idle : goal.invariant_of-is_idle
invariant_of-is_idle c =
    record {
      below = rw c.inlet.ensures (port_bound (view c.args.s.now) c.args.p.at c.loop-i.i c.requires.all
          (omega (arith, c.inlet_count-n.ensures.value)));
    }

pub returns-then-is_idle : goal.returns-then-is_idle
returns-then-is_idle c =
    any_here (idle (view c.args.s.now)) (inlets_at (view c.args.s.now) c.args.p.at) c.loop-i.i c.is_idle.result
    (omega (arith, c.inlet_count-n.ensures.value)) c.loop-i.invariant (rw (← c.inlet.ensures) c.is_idle.ensures) c.if-is_idle.true

pub loop-i-preserved : goal.loop-i-preserved
loop-i-preserved c =
    any_later (idle (view c.args.s.now)) (inlets_at (view c.args.s.now) c.args.p.at) c.loop-i.i c.is_idle.result
    (omega (arith, c.inlet_count-n.ensures.value)) c.loop-i.invariant (rw (← c.inlet.ensures) c.is_idle.ensures) c.if-is_idle.false

pub returns : goal.returns
returns c =
    any_end (idle (view c.args.s.now)) (inlets_at (view c.args.s.now) c.args.p.at) c.loop-i.i (omega (arith, c.inlet_count-n.ensures.value))
    c.loop-i.invariant
