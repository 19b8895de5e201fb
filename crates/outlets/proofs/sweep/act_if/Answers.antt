use borrow.Author.Rules.{rules}
use Rattle.outlets.specs.Able.{able_can}
use Rattle.outlets.specs.Act.{turn_not, turn_yes}
use Rattle.tables.specs.View.{view}
use mathlib.Core.Path.{◌∙◌, refl}
use Rattle.outlets.proofs.sweep.act_if.Goals as goal

pub returns-then-not-is_outlet : goal.returns-then-not-is_outlet
returns-then-not-is_outlet c =
    (turn_not c.args.a c.args.p c.args.x.at (view c.args.s.now) c.is_outlet.result c.is_outlet.ensures (rw c.if-not-is_outlet.true refl), refl)

pub apply-requires : goal.apply-requires
apply-requires c =
    record {
      can_act = able_can c.args.s.now (search rules) c.args.a c.args.x.at c.requires.able;
    }

pub returns : goal.returns
returns c = (
  c.apply.ensures.0 ∙ turn_yes c.args.a c.args.p c.args.x.at (view c.args.s.now) c.is_outlet.result c.is_outlet.ensures
      (rw c.if-not-is_outlet.false refl),
  c.apply.ensures.1,
)
