-- `table_lists::flags::unbuilt` meets its contract.
use borrow.Author.Rules.{rules}
use mathlib.Core.Path.{sym}
use Rattle.tables.specs.Loaded.{unbuilt_loaded}
use Rattle.table_lists.proofs.flags.unbuilt.Goals as goal

pub returns : goal.returns
returns c = sym (unbuilt_loaded c.args.s.now (search rules) c.args.i.at (search rules))
