-- `lowering::leaves::lay_leaf` meets its contract.
use mathlib.Core.Path.{ap, ◌∙◌}
use Rattle.claims.specs.Claimed.{number_of}
use Rattle.tables.specs.View.{view}
use Rattle.lowering.specs.Leaves.{leaf_own, leaf_claimed}
use Rattle.lowering.proofs.leaves.lay_leaf.Goals as goal

pub returns-in-None : goal.returns-in-None
returns-in-None c =
    (c.lay_source.ensures.0 ∙ leaf_own _ _ _ (view c.args.s.now) (ap number_of c.in-None.is), c.lay_source.ensures.1)

pub returns-in-Some : goal.returns-in-Some
returns-in-Some c =
    (c.lay_claimed.ensures.0 ∙ leaf_claimed _ _ _ _ _ (view c.args.s.now) (ap number_of c.in-Some.is) c.requires.p_value, c.lay_claimed.ensures.1)
