-- `batches::batch::lowered` meets its contract: the loop goes by `Going`.
use borrow.Author.Rules.{rules}
use Rattle.batches.specs.Lower.{going_next, going_not, going_all}
use Rattle.batches.proofs.batch.lowered.Goals as goal

pub returns-in_err-moved : goal.returns-in_err-moved
returns-in_err-moved c =
    rw c.from_residual.ensures
    (going_not _ _ c.columns-count.result c.loop-i.i _ c.loop-i.invariant.1 c.columns-count.ensures (search rules) c.in_err-moved.ensures)

pub loop-i-preserved : goal.loop-i-preserved
loop-i-preserved c = (search rules, going_next _ _ _ _ _ c.loop-i.invariant.1 (search rules) c.in_ok-moved.ensures)

pub returns : goal.returns
returns c = going_all _ _ _ c.loop-i.i _ c.loop-i.invariant.1 c.columns-count.ensures (search rules) (search rules)
