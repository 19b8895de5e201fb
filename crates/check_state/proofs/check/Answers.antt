-- `check_state::check` meets its contract.
use mathlib.Core.Path.{sym, ap, ◌∙◌}
use borrow.Author.Rules.{rules}
use Rattle.rules.specs.Check.{check}
use Rattle.check_state.specs.Checked.{too_short, refused, mislabelled, passed}
use Rattle.check_state.proofs.check.Goals.{else-machine_ok-via-then-machine_ok+else-labels_ok, else-machine_ok-via-else-machine_ok}
use Rattle.check_state.proofs.check.Goals as goal

pub returns-then-s-lt-STATE_LEN-clause-value : goal.returns-then-s-lt-STATE_LEN-clause-value
returns-then-s-lt-STATE_LEN-clause-value c = too_short c.args.s.now (search rules)

pub returns-then-labels_ok-clause-value : goal.returns-then-labels_ok-clause-value
returns-then-labels_ok-clause-value c =
    passed c.args.s.now (search rules)
    (ap check (sym c.machine.ensures.same_view) ∙ sym c.machine_ok.ensures.value ∙ c.if-machine_ok.true)
    (sym c.labels_ok.ensures ∙ c.if-labels_ok.true)

pub returns-then-labels_ok-clause-rows_fit : goal.returns-then-labels_ok-clause-rows_fit
returns-then-labels_ok-clause-rows_fit c = rw (← c.machine.ensures.same_view) c.machine_ok.ensures.rows_fit

pub returns-else-machine_ok-clause-value : goal.returns-else-machine_ok-clause-value
returns-else-machine_ok-clause-value c =
    let s = c.args.s.now in
    elim c.else-machine_ok.branch [
      | else-machine_ok-via-then-machine_ok+else-labels_ok w ↦ mislabelled s (search rules) (sym w.labels_ok.ensures ∙ w.if-labels_ok.false)
      | else-machine_ok-via-else-machine_ok w ↦
          refused s (search rules) (ap check (sym c.machine.ensures.same_view) ∙ sym c.machine_ok.ensures.value ∙ w.if-machine_ok.false)
    ]
