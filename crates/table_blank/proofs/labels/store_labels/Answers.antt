-- `table_blank::labels::store_labels` meets its contract.
use Rattle.table_blank.specs.Labels.{labels_filled}
use borrow.Author.Rules.{rules}
use Rattle.table_blank.proofs.labels.store_labels.Goals as goal

pub returns : goal.returns
returns c =
    labels_filled c.args.labels c.copy_from_slice.new.self c.args.s.now (search rules) (search rules) c.copy_from_slice.ensures.after
