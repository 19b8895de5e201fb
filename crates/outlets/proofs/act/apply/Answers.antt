use borrow.Author.Rules.{rules}
use Rattle.outlets.specs.Act.{did_push, did_close, did_pass, can_pass}
use Rattle.tables.specs.View.{view}
use mathlib.Core.Path.{◌∙◌}
use Rattle.outlets.proofs.act.apply.Goals as goal

pub enum_told-1 : goal.enum_told-1
enum_told-1 c = search rules

pub pass_mark-requires : goal.pass_mark-requires
pass_mark-requires c =
    record { tells = can_pass c.args.a c.args.x.at (view c.args.s.now) c.in-Pass.is c.requires.can_act }

pub returns-in-Push : goal.returns-in-Push
returns-in-Push c =
    (c.push_share.ensures.0 ∙ did_push c.args.a c.args.x.at (view c.args.s.now) c.in-Push.is, c.push_share.ensures.1)

pub returns-in-Close : goal.returns-in-Close
returns-in-Close c =
    (c.close_share.ensures.0 ∙ did_close c.args.a c.args.x.at (view c.args.s.now) c.in-Close.is, c.close_share.ensures.1)

pub returns-in-Pass : goal.returns-in-Pass
returns-in-Pass c =
    (c.pass_mark.ensures.0 ∙ did_pass c.args.a c.args.x.at (view c.args.s.now) c.in-Pass.is, c.pass_mark.ensures.1)
