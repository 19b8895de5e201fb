-- `check_job::leaf::one_count` meets its contract.
use Rattle.tables.specs.View.{view}
use Rattle.jobs.specs.Job.{node_of}
use Rattle.check_job.specs.Leaf.{count_hit, count_miss, count_end}
use mathlib.Core.Path.{refl, sym, ◌∙◌}
use Rattle.rules.specs.Job.{node_at}
use Rattle.check_job.proofs.leaf.one_count.Goals as goal

pub returns-then-other_rows : goal.returns-then-other_rows
returns-then-other_rows c =
    sym (c.loop-k.invariant ∙ count_hit (view c.args.s.now).job.nodes c.args.i c.loop-k.k c.loop-k-test.true (node_of c.args.x)
    (node_at (view c.args.s.now).job.nodes c.loop-k.k) c.requires.x_value refl (sym c.other_rows.ensures ∙ c.if-other_rows.true))

pub loop-k-preserved : goal.loop-k-preserved
loop-k-preserved c =
    c.loop-k.invariant ∙ count_miss (view c.args.s.now).job.nodes c.args.i c.loop-k.k c.loop-k-test.true (node_of c.args.x)
    (node_at (view c.args.s.now).job.nodes c.loop-k.k) c.requires.x_value refl (sym c.other_rows.ensures ∙ c.if-other_rows.false)

pub returns : goal.returns
returns c =
    sym (c.loop-k.invariant ∙ count_end (view c.args.s.now).job.nodes c.args.i c.loop-k.k c.loop-k-test.false)
