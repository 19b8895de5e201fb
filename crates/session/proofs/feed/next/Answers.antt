-- `session::feed::next` meets its contract.
use Rattle.session.specs.Feeding.{feeds_by, wait_does, open_does, skip_does, pass_does, tell_does, answer_does, end_does}
use Rattle.feeding.specs.Within.{Within, task_within}
use Rattle.feeding.specs.declared.Task.{Task}
use lib.ListN.{length}
use mathlib.Core.Bool.{true}
use mathlib.Core.Path.{sym, subst, ◌∙◌}
use borrow.Author.Rules.{rules}
use Rattle.session.proofs.feed.next.Goals as goal

pub enum_told-1 : goal.enum_told-1
enum_told-1 c = search rules

pub opens-requires : goal.opens-requires
opens-requires c =
    subst (λ (x : Task). Within x (length c.args.input.now)) (sym c.task-t.ensures ∙ c.in-Open.is) (task_within c.args.p c.args.c c.args.input.now)

pub skips-requires : goal.skips-requires
skips-requires c =
    subst (λ (x : Task). Within x (length c.args.input.now)) (sym c.task-t.ensures ∙ c.in-Skip.is) (task_within c.args.p c.args.c c.args.input.now)

pub returns-in-Wait : goal.returns-in-Wait
returns-in-Wait c =
    feeds_by c.args.c c.args.p c.args.input.now c.args.state.now c.args.out.now _ _ _ c.task-t.result c.task-t.ensures _ c.in-Wait.is
    (wait_does c.args.p c.args.input.now c.args.state.now c.args.out.now (record { len = 0; whole = true }))

pub returns-in-Open : goal.returns-in-Open
returns-in-Open c =
    feeds_by c.args.c c.args.p c.args.input.now c.args.state.now c.args.out.now _ _ _ c.task-t.result c.task-t.ensures _ c.in-Open.is
    (open_does c.args.p c.args.input.now c.args.state.now c.args.out.now (record { len = 0; whole = true }) _ _ _ c.opens.result c.opens.ensures)

pub returns-in-Skip : goal.returns-in-Skip
returns-in-Skip c =
    feeds_by c.args.c c.args.p c.args.input.now c.args.state.now c.args.out.now _ _ _ c.task-t.result c.task-t.ensures _ c.in-Skip.is
    (skip_does c.args.p c.args.input.now c.args.state.now c.args.out.now (record { len = 0; whole = true }) _ _ _ c.skips.result
    c.skips.ensures.value c.skips.ensures.left)

pub returns-in-Pass : goal.returns-in-Pass
returns-in-Pass c =
    feeds_by c.args.c c.args.p c.args.input.now c.args.state.now c.args.out.now _ _ _ c.task-t.result c.task-t.ensures _ c.in-Pass.is
    (pass_does c.args.p c.args.input.now c.args.state.now c.args.out.now (record { len = 0; whole = true }) _)

pub returns-in-Tell : goal.returns-in-Tell
returns-in-Tell c =
    feeds_by c.args.c c.args.p c.args.input.now c.args.state.now c.args.out.now _ _ _ c.task-t.result c.task-t.ensures _ c.in-Tell.is
    (tell_does c.args.p c.args.input.now c.args.state.now c.args.out.now (record { len = 0; whole = true }) _ _ c.tells.result
    c.tells.ensures.value c.tells.ensures.written_after)

pub returns-in-Answer : goal.returns-in-Answer
returns-in-Answer c =
    feeds_by c.args.c c.args.p c.args.input.now c.args.state.now c.args.out.now _ _ _ c.task-t.result c.task-t.ensures _ c.in-Answer.is
    (answer_does c.args.p c.args.input.now c.args.state.now c.args.out.now (record { len = 0; whole = true }) _ _ _ _ c.answer.result
    c.after.result c.answer.ensures c.after.ensures)

pub returns-in-End : goal.returns-in-End
returns-in-End c =
    feeds_by c.args.c c.args.p c.args.input.now c.args.state.now c.args.out.now _ _ _ c.task-t.result c.task-t.ensures _ c.in-End.is
    (end_does c.args.p c.args.input.now c.args.state.now c.args.out.now (record { len = 0; whole = true }))
