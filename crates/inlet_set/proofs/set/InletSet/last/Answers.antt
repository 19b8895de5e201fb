-- `inlet_set::set::InletSet::last` meets its contract.
use native.Mathlib.Omega.{arith}
use Rattle.inlet_set.specs.CountLaws.{last_some}
use Rattle.inlet_set.proofs.set.InletSet.last.Goals as goal

pub returns-else-n-eq0 : goal.returns-else-n-eq0
returns-else-n-eq0 c = last_some _ _ c.len-n.ensures.value (omega arith)
