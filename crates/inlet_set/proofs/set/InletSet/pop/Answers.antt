-- `inlet_set::set::InletSet::pop` meets its contract.
use Rattle.inlet_set.specs.CountLaws.{pop_is}
use Rattle.inlet_set.proofs.set.InletSet.pop.Goals as goal

pub returns : goal.returns
returns c = rw c.saturating_sub-len.ensures (pop_is _ _ c.len.ensures.value _ c.last.ensures)
