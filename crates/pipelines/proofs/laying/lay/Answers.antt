-- `pipelines::laying::lay` meets its contract.
use mathlib.Core.Path.{◌∙◌, ◌≡◌}
use native.Mathlib.Omega.{arith}
use lib.ListN.{length}
use lib.Seq.{length-take-le}
use Rattle.tables.specs.View.{view}
use Rattle.pipelines.specs.Laying.{lay_taken, lay_free}
use Rattle.pipelines.proofs.laying.lay.Goals as goal

pub returns-then-is_live : goal.returns-then-is_live
returns-then-is_live c =
    (c.fault_if.ensures.0 ∙ lay_taken _ _ _ _ (view c.args.s.now) _ c.is_live.ensures c.if-is_live.true, c.fault_if.ensures.1)

pub returns : goal.returns
returns c =
    let g : length c.args.xs.ports ≡ 23 = c.well_formed.1.1.1.1.0.1.1.1.0.1.0.1 in (
      rw (c.lay_parts.ensures.0, c.lay_sets.ensures.0) (lay_free _ _ _ _ _ _ (view c.args.s.now) _ c.is_live.ensures c.if-is_live.false
          (length-take-le c.args.xs.len c.args.xs.ports (omega (arith, g, c.requires.len_bound))) c.noted.ensures),
      c.lay_parts.ensures.1 ∙ c.lay_sets.ensures.1,
    )
