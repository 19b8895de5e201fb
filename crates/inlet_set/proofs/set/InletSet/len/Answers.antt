-- `inlet_set::set::InletSet::len` meets its contract.
use mathlib.Core.Path.{sym, ◌∙◌}
use Rattle.inlet_set.specs.InsertLaws.{count_is}
use Rattle.inlet_set.proofs.set.InletSet.len.Goals as goal

pub returns-clause-value : goal.returns-clause-value
returns-clause-value c = c.min.ensures ∙ sym (count_is _)
