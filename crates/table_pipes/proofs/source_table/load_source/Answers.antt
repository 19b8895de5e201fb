-- `table_pipes::source_table::load_source` meets its contract.
use mathlib.Core.Path.{sym, ◌∙◌}
use borrow.Author.Rules.{rules}
use Rattle.tables.specs.Loaded.{source_loaded}
use Rattle.table_pipes.proofs.source_table.load_source.Goals as goal

pub returns : goal.returns
returns c =
    c.source_of.ensures ∙ sym (source_loaded c.args.s.now (search rules) c.args.p.at (search rules))
