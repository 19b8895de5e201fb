-- `pipelines::owners::disown` meets its contract.
use mathlib.Core.Path.{refl, ◌∙◌}
use native.Mathlib.Omega.{arith}
use Rattle.tables.specs.View.{view}
use Rattle.pipelines.specs.Owners.{disowned_none, disowned_length, disowned_next, disowned_all}
use Rattle.pipelines.proofs.owners.disown.Goals as goal

pub loop-i-init : goal.loop-i-init
loop-i-init c = (disowned_none _ (view c.args.s.now), refl)

pub disown_read-requires : goal.disown_read-requires
disown_read-requires c =
    record { i_in_bounds = omega (arith, c.read_count-i-end.ensures, c.loop-i-test.true, disowned_length _ _ _ _ c.loop-i.invariant.0) }

pub loop-i-preserved : goal.loop-i-preserved
loop-i-preserved c = (
  disowned_next _ _ (view c.args.s.now) _ _ (rw (← c.read_count-i-end.ensures) c.loop-i-test.true) c.loop-i.invariant.0 c.disown_read.ensures.0,
  c.disown_read.ensures.1 ∙ c.loop-i.invariant.1,
)

pub returns : goal.returns
returns c =
    (disowned_all _ _ (view c.args.s.now) _ (rw (← c.read_count-i-end.ensures) c.loop-i-test.false) c.loop-i.invariant.0, c.loop-i.invariant.1)
