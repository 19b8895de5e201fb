-- `check_lists::first::is_first` meets its contract.
use mathlib.Core.Path.{sym, ◌∙◌}
use Rattle.tables.specs.View.{view}
use Rattle.check_lists.specs.First.{first_new}
use Rattle.check_lists.proofs.first.is_first.Goals as goal

pub returns-then-distinct : goal.returns-then-distinct
returns-then-distinct c =
    c.if-distinct.true ∙ first_new (view c.args.s.now) c.args.g (sym c.is_leaf.ensures ∙ c.if-is_leaf.true) (c.requires.distinct c.if-distinct.true)
