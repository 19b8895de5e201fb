-- `tables::batch::get_batch` meets its contract.
use Rattle.batches.specs.Cells.{cells_of}
use Rattle.layout.specs.Cut.{cut}
use Rattle.tables.specs.Decode.{columns, batch}
use Rattle.tables.specs.Batch.{batch_in, batch_out}
use borrow.Author.Rules.{rules}
use Rattle.tables.proofs.batch.get_batch.Goals as goal

pub returns-then-width-gt4 : goal.returns-then-width-gt4
unfolding cells_of
returns-then-width-gt4 c = record { result_value = batch_out c.args.r.now (search rules); width_bound = search rules }

pub returns : goal.returns
unfolding cut columns batch
returns c =
    record {
      result_value = rw c.from-width.ensures (batch_in c.args.r.now c.get_words.new.to (search rules) c.get_words.ensures);
      width_bound = search rules;
    }
