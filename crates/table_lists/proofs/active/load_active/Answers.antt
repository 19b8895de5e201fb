-- `table_lists::active::load_active` meets its contract.
use borrow.Author.Rules.{rules}
use mathlib.Core.Path.{sym, ◌∙◌}
use Rattle.tables.specs.Loaded.{active_loaded}
use Rattle.table_lists.proofs.active.load_active.Goals as goal

pub returns : goal.returns
returns c =
    c.option.ensures ∙ sym (active_loaded c.args.s.now (search rules) c.args.k.at (search rules))
