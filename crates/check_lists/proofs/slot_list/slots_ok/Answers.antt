-- `check_lists::slot_list::slots_ok` meets its contract: what is left to test has the same answer.
use mathlib.Core.Path.{sym, ◌∙◌}
use borrow.Author.Rules.{rules}
use Rattle.rules.specs.Check.{slot_ok}
use Rattle.tables.specs.View.{view}
use Rattle.check_lists.specs.Loops.{counted_pass, counted_fail, counted_end}
use Rattle.check_lists.proofs.slot_list.slots_ok.Goals as goal

pub returns-then-not-slot_ok : goal.returns-then-not-slot_ok
returns-then-not-slot_ok c =
    sym (c.loop-k.invariant ∙ counted_fail (slot_ok (view c.args.s.now)) 3 c.loop-k.k (search rules)
    (sym c.if-not-slot_ok.true ∙ c.slot_ok.ensures))

pub loop-k-preserved : goal.loop-k-preserved
loop-k-preserved c =
    c.loop-k.invariant ∙ counted_pass (slot_ok (view c.args.s.now)) 3 c.loop-k.k (search rules)
    (sym c.if-not-slot_ok.false ∙ c.slot_ok.ensures)

pub returns : goal.returns
returns c =
    sym (c.loop-k.invariant ∙ counted_end (slot_ok (view c.args.s.now)) 3 c.loop-k.k (search rules))
