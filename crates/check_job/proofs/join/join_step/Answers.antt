-- `check_job::join::join_step` meets its contract.
use mathlib.Core.Option.{none, some}
use mathlib.Core.Path.{refl, sym, ap, ◌∙◌}
use Rattle.jobs.specs.Job.{node_of}
use Rattle.numbers.specs.Newest.{newest}
use Rattle.tables.specs.View.{view}
use Rattle.check_job.specs.Stack.{top_of}
use Rattle.check_job.specs.Steps.{join_unfit, join_by}
use Rattle.check_job.proofs.join.join_step.Goals as goal

pub returns-then-not-join_fits-clause-result_after : goal.returns-then-not-join_fits-clause-result_after
returns-then-not-join_fits-clause-result_after c =
    join_unfit (view c.args.s.now).job.nodes c.args.i (newest c.args.free.now c.args.top) (node_of c.args.x) c.requires.x_value none
    (sym c.join_fits.ensures ∙ c.if-not-join_fits.true) refl

pub returns-in_err-left-clause-result_after : goal.returns-in_err-left-clause-result_after
returns-in_err-left-clause-result_after c =
    join_by (view c.args.s.now).job.nodes c.args.i (newest c.args.free.now c.args.top) (node_of c.args.x) c.requires.x_value _
    (sym c.join_fits.ensures ∙ c.if-not-join_fits.false) (top_of c.args.free.now c.pops.result) c.pops.ensures.result_value
    (rw (c.from_residual.ensures, c.in_err-left.was) refl)

pub returns-clause-result_after : goal.returns-clause-result_after
returns-clause-result_after c =
    join_by (view c.args.s.now).job.nodes c.args.i (newest c.args.free.now c.args.top) (node_of c.args.x) c.requires.x_value _
    (sym c.join_fits.ensures ∙ c.if-not-join_fits.false) _ c.in_ok-left.ensures.result_value (ap some c.push.ensures.free_after)
