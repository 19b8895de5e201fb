-- `check_ports::queues::slots_ok` meets its contract: what is left to test has the same answer.
use mathlib.Core.Path.{◌≡◌}
use Prim.Native.Nat.{◌*◌}
use Rattle.rules.specs.Check.{queue_ok}
use Rattle.tables.specs.View.{view}
use Rattle.numbers.specs.Loops.{from}
use Rattle.check_ports.proofs.queues.slots_ok.Given as goal

abbrev pub invariant-loop-k : goal.invariant-loop-k
invariant-loop-k l = from (queue_ok (view l.s)) (view l.s).queues 0 ≡ from (queue_ok (view l.s)) (view l.s).queues (l.k * 24)
