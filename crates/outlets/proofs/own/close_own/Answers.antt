use Rattle.outlets.specs.Close.{close_free, close_kept}
use Rattle.tables.specs.View.{view}
use mathlib.Core.Path.{◌∙◌}
use Rattle.outlets.proofs.own.close_own.Goals as goal

pub returns-then-is_unread : goal.returns-then-is_unread
returns-then-is_unread c = (
  c.free_port.ensures.0 ∙ close_free (view c.args.s.now) c.args.x.at c.is_unread.result c.args.x.below c.is_unread.ensures c.if-is_unread.true,
  c.free_port.ensures.1,
)

pub returns : goal.returns
returns c = (
  c.close_port.ensures.0 ∙ close_kept (view c.args.s.now) c.args.x.at c.is_unread.result c.args.x.below c.is_unread.ensures c.if-is_unread.false,
  c.close_port.ensures.1,
)
