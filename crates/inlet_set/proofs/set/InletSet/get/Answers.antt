-- `inlet_set::set::InletSet::get` meets its contract.
use native.Mathlib.Omega.{arith}
use borrow.Author.Rules.{rules}
use Rattle.inlet_set.specs.CountLaws.{get_in, get_past}
use Rattle.inlet_set.proofs.set.InletSet.get.Goals as goal

pub returns-then-k-len : goal.returns-then-k-len
returns-then-k-len c = get_in _ _ c.len.ensures.value _ (search rules) (omega arith)

pub returns-else-k-len : goal.returns-else-k-len
returns-else-k-len c = get_past _ _ c.len.ensures.value _ (search rules) (omega arith)
