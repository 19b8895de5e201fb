use borrow.Author.Rules.{rules}
use Rattle.outlets.specs.Each.{own_close, close_swept}
use Rattle.tables.specs.View.{view}
use mathlib.Core.Path.{◌∙◌}
use Rattle.outlets.proofs.each.close_outlets.Goals as goal

pub returns-then-p-lt72 : goal.returns-then-p-lt72
returns-then-p-lt72 c =
    (c.close_own.ensures.0 ∙ own_close (view c.args.s.now) c.args.p.at c.if-p-lt72.true, c.close_own.ensures.1)

pub returns : goal.returns
returns c =
    (c.sweep.ensures.0 ∙ close_swept c.args.s.now (search rules) c.args.p.at c.if-p-lt72.false, c.sweep.ensures.1)
