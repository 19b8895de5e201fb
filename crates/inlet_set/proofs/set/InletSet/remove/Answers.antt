-- `inlet_set::set::InletSet::remove` meets its contract.
use mathlib.Core.Path.{sym}
use native.Mathlib.Omega.{arith}
use borrow.Author.Rules.{rules}
use Rattle.inlet_set.specs.SetLaws.{last_below}
use Rattle.inlet_set.specs.CountLaws.{remove_yes, remove_no}
use Rattle.inlet_set.proofs.set.InletSet.remove.Goals as goal

pub returns-in_default : goal.returns-in_default
returns-in_default c = remove_no _ _ c.len-n.ensures.value _ c.in_default.ensures

pub overflow_sub-last : goal.overflow_sub-last
overflow_sub-last c = omega (arith, last_below _ _ _ _ (sym c.in-Some.ensures))

pub bounds-s-k : goal.bounds-s-k
bounds-s-k c = omega (arith, c.len-n.ensures.upper_bound, last_below _ _ _ _ (sym c.in-Some.ensures))

pub returns : goal.returns
returns c = remove_yes _ _ c.len-n.ensures.value _ _ (search rules) c.in-Some.ensures
