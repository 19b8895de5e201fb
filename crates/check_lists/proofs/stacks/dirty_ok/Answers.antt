-- `check_lists::stacks::dirty_ok` meets its contract: what is left to test has the same answer.
use mathlib.Core.Path.{sym, ap, ◌∙◌}
use borrow.Author.Rules.{rules}
use Rattle.rules.specs.Check.{is_active}
use Rattle.tables.specs.View.{view}
use Rattle.numbers.specs.Loops.{all_pass, all_fail, all_none}
use Rattle.check_lists.proofs.stacks.dirty_ok.Goals as goal

pub returns-then-not-is_active : goal.returns-then-not-is_active
returns-then-not-is_active c =
    sym (c.loop-k.invariant ∙ all_fail (is_active (view c.args.s.now)) 0 (view c.args.s.now).dirty c.loop-k.k (search rules)
    (sym c.if-not-is_active.true ∙ c.is_active.ensures ∙ ap (is_active (view c.args.s.now)) c.at.ensures))

pub loop-k-preserved : goal.loop-k-preserved
loop-k-preserved c =
    c.loop-k.invariant ∙ all_pass (is_active (view c.args.s.now)) 0 (view c.args.s.now).dirty c.loop-k.k (search rules)
    (sym c.if-not-is_active.false ∙ c.is_active.ensures ∙ ap (is_active (view c.args.s.now)) c.at.ensures)

pub returns : goal.returns
returns c =
    sym (c.loop-k.invariant ∙ all_none (is_active (view c.args.s.now)) (view c.args.s.now).dirty c.loop-k.k (search rules))
