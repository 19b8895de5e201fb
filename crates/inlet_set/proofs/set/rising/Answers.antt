-- `inlet_set::set::rising` meets its contract: after i turns the first i are the numbers below i.
use mathlib.Core.Path.{refl}
use native.Mathlib.Omega.{arith}
use borrow.Author.Rules.{rules}
use Rattle.rules.specs.Table.{up_from}
use Rattle.numbers.specs.Newest.{newest}
use Rattle.inlet_set.specs.SetLaws.{all_more}
use Rattle.inlet_set.proofs.set.rising.Goals as goal

pub loop-i-init : goal.loop-i-init
unfolding newest up_from
loop-i-init c = (refl, refl)

pub loop-i-preserved : goal.loop-i-preserved
loop-i-preserved c = (search rules, all_more c.loop-i.r c.loop-i.i c.loop-i.invariant.1 (omega (arith, c.loop-i.invariant.0)))
