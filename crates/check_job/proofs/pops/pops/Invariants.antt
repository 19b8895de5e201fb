-- `check_job::pops::pops` meets its contract.
use Rattle.tables.specs.View.{view}
use Rattle.jobs.specs.Job.{kind_of, node_of}
use Rattle.numbers.specs.Newest.{newest}
use Rattle.stored.specs.Walk as rule
use mathlib.Core.Path.{◌≡◌}
use Rattle.check_job.proofs.pops.pops.Given as goal

abbrev pub invariant-loop-k : goal.invariant-loop-k
invariant-loop-k l =
    (rule.pops (view l.s).job.nodes l.i (rule.whole (kind_of l.x.kind) (node_of l.x)) (newest l.free l.top) ≡ rule.pops (view l.s).job.nodes l.i l.rest
    (newest l.free l.k))
