-- `inlet_set::set::find` meets its contract: what is left to search has the same answer.
use mathlib.Core.Path.{sym, ◌∙◌}
use native.Mathlib.Omega.{arith}
use Rattle.inlet_set.specs.SetLaws.{find_none, find_here, find_next}
use Rattle.inlet_set.proofs.set.find.Goals as goal

pub returns-then-indices-k : goal.returns-then-indices-k
returns-then-indices-k c = find_here _ _ c.loop-k.k (omega arith) c.if-indices-k.true ∙ sym c.loop-k.invariant

pub loop-k-preserved : goal.loop-k-preserved
loop-k-preserved c = c.loop-k.invariant ∙ find_next _ _ c.loop-k.k (omega arith) c.if-indices-k.false

pub returns : goal.returns
returns c = find_none _ _ c.loop-k.k (omega arith) ∙ sym c.loop-k.invariant
