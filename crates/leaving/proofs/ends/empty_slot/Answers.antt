-- `leaving::ends::empty_slot` meets its contract.
use mathlib.Core.Path.{◌∙◌}
use Rattle.tables.specs.View.{view}
use Rattle.leaving.specs.Ends.{empty_is}
use Rattle.leaving.proofs.ends.empty_slot.Goals as goal

pub returns : goal.returns
returns c = (
  empty_is c.args.k.at (view c.args.s.now) _ _ _ c.args.k.below c.retire_rising.ensures.0 c.free_places.ensures.0 c.store_active.ensures.0,
  c.store_active.ensures.1 ∙ c.free_places.ensures.1 ∙ c.retire_rising.ensures.1,
)
