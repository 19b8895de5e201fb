-- `check_job::leaf::leaf_step` meets its contract.
use mathlib.Core.Option.{none, some}
use mathlib.Core.Path.{refl, sym, ap, ◌∙◌}
use Rattle.jobs.specs.Job.{node_of}
use Rattle.numbers.specs.Newest.{newest}
use Rattle.tables.specs.View.{view}
use Rattle.check_job.specs.Steps.{leaf_more, leaf_other}
use Rattle.check_job.proofs.leaf.leaf_step.Goals as goal

pub returns-then-not-leaf_fits-clause-result_after : goal.returns-then-not-leaf_fits-clause-result_after
returns-then-not-leaf_fits-clause-result_after c =
    leaf_other (view c.args.s.now).job.nodes c.args.i (newest c.args.free.now c.args.top) (node_of c.args.x) c.requires.x_value none
    (sym c.leaf_fits.ensures ∙ c.if-not-leaf_fits.true) refl

pub returns-clause-result_after : goal.returns-clause-result_after
returns-clause-result_after c =
    leaf_more (view c.args.s.now).job.nodes c.args.i (newest c.args.free.now c.args.top) (node_of c.args.x) c.requires.x_value _
    (sym c.leaf_fits.ensures ∙ c.if-not-leaf_fits.false) (ap some c.push.ensures.free_after)
