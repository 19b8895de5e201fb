-- `inlet_set::set::InletSet::insert` meets its contract.
use mathlib.Core.Path.{sym, ◌∙◌}
use native.Mathlib.Omega.{arith}
use borrow.Author.Rules.{rules}
use Rattle.inlet_set.specs.InsertLaws.{insert_new}
use Rattle.inlet_set.proofs.set.InletSet.insert.Goals as goal

pub returns : goal.returns
returns c =
    insert_new _ _ _ (omega arith) (sym c.has.ensures ∙ c.if-has.false) c.len-n.ensures.value (omega arith) (search rules)
