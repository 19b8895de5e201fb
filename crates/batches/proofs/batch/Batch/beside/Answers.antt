-- `batches::batch::Batch::beside` meets its contract.
use native.Mathlib.Omega.{arith}
use borrow.Author.Rules.{rules}
use Rattle.batches.specs.Beside.{beside_not, beside_is}
use Rattle.batches.proofs.batch.Batch.beside.Goals as goal

pub returns-then-mine-more-gt4 : goal.returns-then-mine-more-gt4
returns-then-mine-more-gt4 c =
    beside_not _ _ c.columns-mine.result c.columns-more.result (search rules) (search rules) c.columns-mine.ensures
    c.columns-more.ensures (omega arith)

pub returns : goal.returns
returns c =
    beside_is _ _ _ _ _ _ (search rules) (search rules) c.columns-mine.ensures c.columns-more.ensures (omega arith) c.pasted.ensures
    c.pasted-2.ensures
