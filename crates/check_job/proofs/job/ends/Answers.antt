-- `check_job::job::ends` meets its contract.
use borrow.Author.Tests.{ne_eqb}
use mathlib.Core.Path.{◌∙◌}
use Rattle.jobs.specs.Job.{node_of}
use Rattle.tables.specs.View.{view}
use Rattle.check_job.specs.Ends.{ends_other, ends_one, has_parent, no_parent}
use Rattle.check_job.proofs.job.ends.Goals as goal

pub returns-then-top-ne1 : goal.returns-then-top-ne1
returns-then-top-ne1 c = rw c.in-Some.is (ends_other (view c.args.s.now).job.nodes c.args.w.free c.in-Some.top c.if-top-ne1.true)

pub returns-then-y : goal.returns-then-y
returns-then-y c =
    rw (c.in-Some.is, c.if-top-ne1.false)
    (no_parent c.load_node-y.result.parent c.load_node-y.result.at c.if-y.true
    ∙ ends_one (view c.args.s.now).job.nodes c.args.w.free (node_of c.load_node-y.result) (rw c.from.ensures at c.load_node-y.ensures))

pub returns-else-y : goal.returns-else-y
returns-else-y c =
    rw (c.in-Some.is, c.if-top-ne1.false)
    (ne_eqb c.load_node-y.result.parent 255 c.if-y.false ∙ has_parent c.load_node-y.result.parent c.load_node-y.result.at c.if-y.false
    ∙ ends_one (view c.args.s.now).job.nodes c.args.w.free (node_of c.load_node-y.result) (rw c.from.ensures at c.load_node-y.ensures))
