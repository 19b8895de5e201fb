-- `tables::batch::put_batch` meets its contract.
use Rattle.tables.specs.Batch.{batch_back}
use borrow.Author.Rules.{rules}
use Rattle.tables.proofs.batch.put_batch.Goals as goal

pub returns : goal.returns
returns c =
    batch_back c.args.r.now c.put_words.new.r c.args.b (search rules) (search rules) c.put_words.ensures (search rules) (search rules) (search rules)
