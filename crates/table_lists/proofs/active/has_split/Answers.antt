-- `table_lists::active::has_split` meets its contract.
use mathlib.Core.Path.{ap, ◌∙◌}
use Rattle.std.proofs.Common.{le-ltb}
use Rattle.rules.specs.Table.{given}
use Rattle.tables.specs.Lengths.{active_past}
use Rattle.table_lists.specs.Given.{present_given}
use borrow.Author.Rules.{rules}
use Rattle.table_lists.proofs.active.has_split.Goals as goal

pub returns-then-k-lt3 : goal.returns-then-k-lt3
returns-then-k-lt3 c = c.is_some.ensures ∙ present_given c.load_active.result ∙ ap given c.load_active.ensures

pub returns-else-k-lt3 : goal.returns-else-k-lt3
unfolding given
returns-else-k-lt3 c = rw (le-ltb c.args.k 3 c.if-k-lt3.false, active_past c.args.s.now c.args.k (search rules))
