-- `lowering::leaves::lower_leaf` meets its contract.
use mathlib.Core.Path.{◌∙◌}
use Rattle.tables.specs.View.{view}
use Rattle.lowering.specs.Leaves.{leaf_is}
use Rattle.lowering.proofs.leaves.lower_leaf.Goals as goal

pub returns : goal.returns
returns c =
    (leaf_is _ _ _ _ (view c.args.s.now) _ _ c.claim-c.ensures.s_value c.lay_leaf.ensures.0, c.lay_leaf.ensures.1 ∙ c.claim-c.ensures.s_unchanged)
