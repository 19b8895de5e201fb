-- `inlet_set::set::find` meets its contract: what is left to search has the same answer.
use mathlib.Core.Path.{◌≡◌}
use Rattle.inlet_set.specs.InletSet.{last_at}
use Rattle.inlet_set.proofs.set.find.Given as goal

abbrev pub invariant-loop-k : goal.invariant-loop-k
invariant-loop-k l = last_at l.inlet l.indices l.n ≡ last_at l.inlet l.indices l.k
