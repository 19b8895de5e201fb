-- `scheduler::stepping::stepping` meets its contract.
use Rattle.scheduler.specs.Step.{On}
use Rattle.order.specs.Measure.{measure}
use Rattle.tables.specs.View.{view}
use Rattle.scheduler.proofs.stepping.stepping.Given as goal

abbrev pub invariant-loop-s : goal.invariant-loop-s
invariant-loop-s l = On l.initial.s l.s

abbrev pub decreases-loop-s : goal.decreases-loop-s
decreases-loop-s l = measure (view l.s)
