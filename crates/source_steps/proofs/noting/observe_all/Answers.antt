-- `source_steps::noting::observe_all` meets its contract: the number that is taken is the newest of those left.
use Rattle.std.proofs.Common.{refl, ap, ◌∙◌}
use Rattle.std.proofs.Math.Option.{some}
use Rattle.inlet_set.specs.InletSet.{set_of}
use Rattle.tables.specs.View.{view}
use Rattle.source_steps.specs.Noting.{observing_start, observing_next, observing_less, observing_end}
use Rattle.source_steps.proofs.noting.observe_all.Goals as goal

pub loop-i-init : goal.loop-i-init
loop-i-init c = (observing_start (view c.args.s.now) c.args.p.at _ c.requires.packing c.load-set.ensures, refl)

pub returns : goal.returns
returns c = (
  observing_end (view c.args.s.now) (view c.loop-i.s) c.args.p.at (set_of c.loop-i.set) c.loop-i.invariant.0
      (rw c.in_default.is at c.pop.ensures.inlet),
  c.loop-i.invariant.1,
)

pub loop-i-smaller : goal.loop-i-smaller
loop-i-smaller c =
    observing_less (view c.args.s.now) (view c.loop-i.s) c.args.p.at c.from.result (set_of c.loop-i.set) (set_of c.pop.new.set)
    (ap some c.from.ensures ∙ rw c.in-Some.is at c.pop.ensures.inlet) c.pop.ensures.set

pub loop-i-preserved : goal.loop-i-preserved
loop-i-preserved c = (
  observing_next (view c.args.s.now) (view c.loop-i.s) c.args.p.at c.from.result (set_of c.loop-i.set) (set_of c.pop.new.set)
      (view c.observe.new.s) c.loop-i.invariant.0 (ap some c.from.ensures ∙ rw c.in-Some.is at c.pop.ensures.inlet)
      c.pop.ensures.set c.observe.ensures.0,
  c.observe.ensures.1 ∙ c.loop-i.invariant.1,
)
