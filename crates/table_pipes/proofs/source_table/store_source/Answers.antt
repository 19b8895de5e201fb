-- `table_pipes::source_table::store_source` meets its contract.
use mathlib.Core.Path.{ap, ◌∙◌}
use lib.ListN.{length}
use borrow.Author.Rules.{rules}
use Rattle.tables.specs.Decode.{source}
use Rattle.tables.specs.Written.{source_written}
use Rattle.table_pipes.specs.Source.{source_of}
use Rattle.table_pipes.proofs.source_table.store_source.Goals as goal

pub returns : goal.returns
returns c =
    source_written c.args.s.now (search rules) c.args.p.at c.copy_from_slice.new.self (source_of c.args.x) (search rules) (ap length c.copy_from_slice.ensures.after ∙ search rules)
    (ap source c.copy_from_slice.ensures.after ∙ c.source_bytes.ensures)
