-- `check_job::leaf::one_count` meets its contract.
use Rattle.tables.specs.View.{view}
use Rattle.stored.specs.Walk.{one_count}
use Rattle.check_job.specs.Leaf.{count_from}
use mathlib.Core.Path.{◌≡◌}
use Rattle.check_job.proofs.leaf.one_count.Given as goal

abbrev pub invariant-loop-k : goal.invariant-loop-k
invariant-loop-k l = (one_count (view l.s).job.nodes l.i ≡ count_from (view l.s).job.nodes l.i l.k)
