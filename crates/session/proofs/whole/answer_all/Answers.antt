-- `session::whole::answer_all` meets its contract: the calls that are left come to what all calls come to.
use Rattle.session.specs.Answering.{left_start, left_next, left_bad, left_end}
use Rattle.tables.specs.View.{view}
use Rattle.tables.specs.Lent.{lent_fault}
use Rattle.lines.specs.Page.{page}
use mathlib.Core.Path.{refl, ◌∙◌}
use borrow.Author.Rules.{rules}
use Rattle.session.proofs.whole.answer_all.Goals as goal

pub loop-at-init : goal.loop-at-init
loop-at-init c =
    let start = left_start c.args.input.now c.args.from (view c.args.state.now) (page c.args.out.now c.args.w) in
    (search rules, refl, refl, refl, c.requires.state_value, start)

pub loop-at-preserved : goal.loop-at-preserved
loop-at-preserved c = (
  c.in-Some.ensures.call_ends.1,
  search rules,
  search rules,
  c.answer-done.ensures.past ∙ c.loop-at.invariant.3,
  c.answer-done.ensures.ready c.loop-at.invariant.4,
  left_next c.args.input.now c.loop-at.at
      (view c.loop-at.state) (page c.loop-at.out c.loop-at.done) _ _ c.loop-at-test.true c.in-Some.call c.in-Some.next
      c.in-Some.ensures.result_value c.in-Some.ensures.call_ends.0 _ _ (lent_fault c.loop-at.state) c.loop-at.invariant.4
      c.answer-done.ensures.state c.answer-done.ensures.text c.loop-at.invariant.5,
)

pub returns-in_default-clause-result_after : goal.returns-in_default-clause-result_after
returns-in_default-clause-result_after c =
    (left_bad c.args.input.now c.loop-at.at (view c.loop-at.state) (page c.loop-at.out c.loop-at.done) _ _ c.loop-at-test.true
    (rw c.in_default.is at c.next_call.ensures.result_value) _ _ (lent_fault c.loop-at.state) c.answer.ensures.state c.answer.ensures.text
    c.loop-at.invariant.5).0

pub returns-in_default-clause-state_after : goal.returns-in_default-clause-state_after
returns-in_default-clause-state_after c =
    (left_bad c.args.input.now c.loop-at.at (view c.loop-at.state) (page c.loop-at.out c.loop-at.done) _ _ c.loop-at-test.true
    (rw c.in_default.is at c.next_call.ensures.result_value) _ _ (lent_fault c.loop-at.state) c.answer.ensures.state c.answer.ensures.text
    c.loop-at.invariant.5).1

pub returns : goal.returns
returns c =
    let e = left_end c.args.input.now c.loop-at.at (view c.loop-at.state) (page c.loop-at.out c.loop-at.done) _ _
    c.loop-at-test.false c.loop-at.invariant.5 in record { result_after = e.0; state_after = e.1; state_unchanged = c.loop-at.invariant.3 }
