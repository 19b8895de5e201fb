-- `leaving::ports::free_shares` meets its contract.
use mathlib.Core.Path.{refl, ◌∙◌}
use Rattle.rules.specs.Machine.{share_port}
use Rattle.tables.specs.View.{view}
use Rattle.leaving.specs.Ends.{freeing_start, freeing_next, freeing_end}
use Rattle.leaving.proofs.ports.free_shares.Goals as goal

pub loop-l-init : goal.loop-l-init
loop-l-init c =
    (freeing_start (λ i. share_port i c.args.t.at) (view c.args.s.now), refl)

pub loop-l-preserved : goal.loop-l-preserved
loop-l-preserved c = (
  freeing_next (λ i. share_port i c.args.t.at) c.loop-l.l _ (view c.args.s.now) _ _ c.loop-l-test.true refl c.free_port.ensures.0 c.loop-l.invariant.0,
  c.free_port.ensures.1 ∙ c.loop-l.invariant.1,
)

pub returns : goal.returns
returns c =
    (freeing_end (λ i. share_port i c.args.t.at) c.loop-l.l (view c.args.s.now) _ c.loop-l-test.false c.loop-l.invariant.0, c.loop-l.invariant.1)
