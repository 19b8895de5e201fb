-- `table_lists::flags::all_built` meets its contract.
use Rattle.layout.specs.Cut.{cut}
use borrow.Author.Rules.{rules}
use mathlib.Core.Path.{sym, ◌∙◌}
use Rattle.table_lists.specs.Built.{built_blank}
use Rattle.table_lists.proofs.flags.all_built.Goals as goal

pub returns : goal.returns
unfolding cut
returns c = record { value = c.is_blank.ensures; all_built = λ e. built_blank c.args.s.now (search rules) (sym c.is_blank.ensures ∙ e) }
