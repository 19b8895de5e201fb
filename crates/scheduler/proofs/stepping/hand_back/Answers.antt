-- `scheduler::stepping::hand_back` meets its contract.
use Rattle.scheduler.specs.Answers.{is_last}
use Rattle.scheduler.specs.Calls.{cleared}
use mathlib.Core.Path.{sym, ◌∙◌}
use Rattle.scheduler.proofs.stepping.hand_back.Goals as goal

pub returns-then-is_last-clause-clears : goal.returns-then-is_last-clause-clears
returns-then-is_last-clause-clears c =
    cleared (is_last c.args.t) c.args.s.now _ (sym c.is_last.ensures ∙ c.if-is_last.true) c.store_labels.ensures
