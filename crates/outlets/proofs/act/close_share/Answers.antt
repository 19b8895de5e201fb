use borrow.Author.Rules.{rules}
use Rattle.outlets.specs.Close.{close_share}
use Rattle.tables.specs.View.{view}
use mathlib.Core.Path.{◌∙◌}
use Rattle.outlets.proofs.act.close_share.Goals as goal

pub returns : goal.returns
returns c =
    (c.close_port.ensures.0 ∙ close_share (view c.args.s.now) c.args.x.at (search rules), c.close_port.ensures.1)
