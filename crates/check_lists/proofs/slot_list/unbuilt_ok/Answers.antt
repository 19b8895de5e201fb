-- `check_lists::slot_list::unbuilt_ok` meets its contract: what is left to test has the same answer.
use mathlib.Core.Path.{sym, ◌∙◌}
use borrow.Author.Rules.{rules}
use mathlib.Core.Bool.{false, not, ◌||◌}
use Rattle.rules.specs.Table.{get}
use Rattle.rules.specs.Check.{is_first}
use Rattle.tables.specs.View.{view}
use Rattle.check_lists.specs.Loops.{counted_pass, counted_fail, counted_end}
use Rattle.check_lists.specs.Built.{built_ok}
use Rattle.check_lists.proofs.slot_list.unbuilt_ok.Goals as goal

pub returns-then-all_built : goal.returns-then-all_built
returns-then-all_built c = built_ok (view c.args.s.now) (c.all_built.ensures.all_built c.if-all_built.true)

pub returns-then-not-unbuilt_at_ok : goal.returns-then-not-unbuilt_at_ok
returns-then-not-unbuilt_at_ok c =
    sym (c.loop-g.invariant ∙ counted_fail (λ g. not (get false (view c.args.s.now).unbuilt g) || is_first (view c.args.s.now) g) 24 c.loop-g.g (search rules)
    (sym c.if-not-unbuilt_at_ok.true ∙ c.unbuilt_at_ok.ensures))

pub loop-g-preserved : goal.loop-g-preserved
loop-g-preserved c =
    c.loop-g.invariant ∙ counted_pass (λ g. not (get false (view c.args.s.now).unbuilt g) || is_first (view c.args.s.now) g) 24 c.loop-g.g (search rules)
    (sym c.if-not-unbuilt_at_ok.false ∙ c.unbuilt_at_ok.ensures)

pub returns : goal.returns
returns c =
    sym (c.loop-g.invariant ∙ counted_end (λ g. not (get false (view c.args.s.now).unbuilt g) || is_first (view c.args.s.now) g) 24 c.loop-g.g (search rules))
