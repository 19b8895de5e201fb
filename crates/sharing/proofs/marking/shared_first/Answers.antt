-- `sharing::marking::shared_first` meets its contract.
use mathlib.Core.Path.{sym, ◌∙◌}
use Rattle.tables.specs.View.{view}
use Rattle.check_job.specs.Alone.{leaf_alone}
use Rattle.sharing.specs.Found.{alone_first}
use Rattle.sharing.proofs.marking.shared_first.Goals as goal

pub returns-then-distinct : goal.returns-then-distinct
returns-then-distinct c =
    alone_first (view c.args.s.now).job c.args.n.at c.is_alone_shared.result
    (leaf_alone (view c.args.s.now).job c.args.n.at (c.requires.distinct c.if-distinct.true)
    (sym c.is_leaf.ensures ∙ c.if-not-is_leaf.false))
    (sym c.is_leaf.ensures ∙ c.if-not-is_leaf.false) c.is_alone_shared.ensures
