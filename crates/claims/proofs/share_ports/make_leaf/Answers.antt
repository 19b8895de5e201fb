-- `claims::share_ports::make_leaf` meets its contract.
use mathlib.Core.Path.{refl, sym, ◌∙◌}
use Rattle.tables.specs.View.{view}
use Rattle.claims.specs.Made.{leaf_none}
use Rattle.claims.proofs.share_ports.make_leaf.Goals as goal

pub returns-else-same_segment : goal.returns-else-same_segment
returns-else-same_segment c =
    (leaf_none c.args.l c.args.i.at (view c.args.s.now) (sym c.same_segment.ensures ∙ c.if-same_segment.false), refl)
