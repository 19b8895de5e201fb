-- `pack_source::fronts::joined` meets its contract.
use borrow.Author.Rules.{rules}
use Rattle.pack_source.specs.FrontsLaws.{going_start, going_next, going_not}
use Rattle.pack_source.proofs.fronts.joined.Goals as goal

pub loop-i-init : goal.loop-i-init
loop-i-init c = going_start _ _ c.none.result _ c.none.ensures c.front-all.ensures

pub returns-in-Err : goal.returns-in-Err
returns-in-Err c = going_not _ _ c.loop-i.i _ c.loop-i.invariant (search rules) _ _ c.in-Err.ensures (search rules)

pub loop-i-preserved : goal.loop-i-preserved
loop-i-preserved c = going_next _ _ c.loop-i.i _ c.loop-i.invariant (search rules) _ c.in-Ok.ensures
