-- `inlet_set::set::InletSet::has` meets its contract.
use mathlib.Core.Path.{◌∙◌}
use Rattle.inlet_set.specs.CountLaws.{has_is}
use Rattle.inlet_set.proofs.set.InletSet.has.Goals as goal

pub returns : goal.returns
returns c = c.is_some.ensures ∙ has_is _ _ c.len.ensures.value _ _ c.find.ensures
