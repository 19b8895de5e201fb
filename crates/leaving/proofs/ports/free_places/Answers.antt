-- `leaving::ports::free_places` meets its contract.
use mathlib.Core.Path.{refl, ◌∙◌}
use Rattle.rules.specs.Machine.{place}
use Rattle.tables.specs.View.{view}
use Rattle.leaving.specs.Ends.{freeing_start, freeing_next, freeing_end}
use Rattle.leaving.proofs.ports.free_places.Goals as goal

pub loop-i-init : goal.loop-i-init
loop-i-init c = (freeing_start (place c.args.k.at) (view c.args.s.now), refl)

pub loop-i-preserved : goal.loop-i-preserved
loop-i-preserved c = (
  freeing_next (place c.args.k.at) c.loop-i.i _ (view c.args.s.now) _ _ c.loop-i-test.true refl c.free_port.ensures.0 c.loop-i.invariant.0,
  c.free_port.ensures.1 ∙ c.loop-i.invariant.1,
)

pub returns : goal.returns
returns c =
    (freeing_end (place c.args.k.at) c.loop-i.i (view c.args.s.now) _ c.loop-i-test.false c.loop-i.invariant.0, c.loop-i.invariant.1)
