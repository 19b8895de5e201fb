-- `check_ports::queues::queues_ok` meets its contract: what is left to test has the same answer.
use mathlib.Core.Path.{sym, ◌∙◌}
use Prim.Native.Nat.{◌+◌, ◌*◌}
use native.Mathlib.Omega.{arith}
use borrow.Author.Rules.{rules}
use Rattle.rules.specs.Check.{queue_ok}
use Rattle.tables.specs.View.{view}
use Rattle.tables.specs.Queues.{length_queues}
use Rattle.numbers.specs.Loops.{each_none}
use Rattle.check_ports.proofs.queues.queues_ok.Goals as goal

pub returns : goal.returns
returns c =
    let s = c.args.s.now in
    sym (c.loop-b.invariant ∙ each_none (queue_ok (view s)) (view s).queues (72 + c.loop-b.b * 64) (omega (arith, length_queues s (search rules))))
