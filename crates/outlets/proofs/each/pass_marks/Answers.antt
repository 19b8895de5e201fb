use borrow.Author.Rules.{rules}
use Rattle.outlets.specs.Each.{own_pass, pass_swept}
use Rattle.outlets.specs.Able.{tells_fits}
use Rattle.tables.specs.View.{view}
use mathlib.Core.Path.{◌∙◌}
use Rattle.outlets.proofs.each.pass_marks.Goals as goal

pub pass_mark-requires : goal.pass_mark-requires
pass_mark-requires c =
    record { tells = tells_fits c.args.s.now (search rules) (search rules) c.args.p.at (search rules) }

pub returns-then-p-lt72 : goal.returns-then-p-lt72
returns-then-p-lt72 c =
    (c.pass_mark.ensures.0 ∙ own_pass (view c.args.s.now) c.args.p.at c.if-p-lt72.true, c.pass_mark.ensures.1)

pub returns : goal.returns
returns c =
    (c.sweep.ensures.0 ∙ pass_swept c.args.s.now (search rules) c.args.p.at c.if-p-lt72.false, c.sweep.ensures.1)
