-- `inlet_set::set::rising` meets its contract: after i turns the first i are the numbers below i.
use mathlib.Core.Path.{◌≡◌}
use lib.ListN.{length}
use Rattle.rules.specs.Pipelines.{all_inlets}
use Rattle.numbers.specs.Newest.{newest}
use Rattle.inlet_set.proofs.set.rising.Given as goal

abbrev pub invariant-loop-i : goal.invariant-loop-i
invariant-loop-i l = (length l.r ≡ 23) × (newest l.r l.i ≡ all_inlets l.i)
