-- `driver::rounds::run_rounds` meets its contract.
use Rattle.driver.specs.Run.{On}
use Rattle.order.specs.Measure.{load}
use Rattle.tables.specs.View.{view}
use Rattle.driver.proofs.rounds.run_rounds.Given as goal

abbrev pub invariant-loop-x : goal.invariant-loop-x
invariant-loop-x l = On l.p.at l.initial.s l.s

abbrev pub decreases-loop-x : goal.decreases-loop-x
decreases-loop-x l = load (view l.s)

abbrev pub invariant-run : goal.invariant-run
invariant-run l = On l.p.at l.initial.s l.s

abbrev pub decreases-run : goal.decreases-run
decreases-run l = load (view l.s)
