-- `check_sources::sets::set_ok` meets its contract: what is left to test has the same answer.
use mathlib.Core.Path.{◌≡◌}
use Rattle.rules.specs.Check.{set_ok}
use Rattle.inlet_set.specs.InletSet.{set_of}
use Rattle.numbers.specs.Newest.{newest}
use Rattle.check_sources.proofs.sets.set_ok.Given as goal

abbrev pub invariant-loop-k : goal.invariant-loop-k
invariant-loop-k l = set_ok l.n (set_of l.x) ≡ set_ok l.n (newest l.x.indices l.k)
