-- `check_ports::queues::queues_from` meets its contract: what is left to test has the same answer.
use mathlib.Core.Path.{◌≡◌}
use Rattle.rules.specs.Check.{queue_ok}
use Rattle.tables.specs.View.{view}
use Rattle.numbers.specs.Loops.{from}
use Rattle.check_ports.proofs.queues.queues_from.Given as goal

abbrev pub invariant-loop-i : goal.invariant-loop-i
invariant-loop-i l = from (queue_ok (view l.s)) (view l.s).queues l.x ≡ from (queue_ok (view l.s)) (view l.s).queues l.i
