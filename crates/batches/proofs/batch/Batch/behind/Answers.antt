-- `batches::batch::Batch::behind` meets its contract.
use borrow.Author.Rules.{rules}
use Rattle.batches.specs.Behind.{behind_is, behind_not}
use Rattle.batches.proofs.batch.Batch.behind.Goals as goal

pub returns-in-Some : goal.returns-in-Some
returns-in-Some c = behind_is _ _ _ _ (search rules) (search rules) c.saturating_sub.ensures c.in-Some.ensures

pub returns-in-None : goal.returns-in-None
returns-in-None c = behind_not _ _ (search rules) (search rules) c.in-None.ensures
