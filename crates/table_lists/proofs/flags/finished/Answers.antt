-- `table_lists::flags::finished` meets its contract.
use borrow.Author.Rules.{rules}
use mathlib.Core.Path.{sym}
use Rattle.tables.specs.Loaded.{finished_loaded}
use Rattle.table_lists.proofs.flags.finished.Goals as goal

pub returns : goal.returns
returns c = sym (finished_loaded c.args.s.now (search rules) c.args.i.at (search rules))
