-- `table_ports::queues::rows_in` meets its contract.
use Prim.Native.Nat.{◌+◌, ◌*◌}
use native.Mathlib.Omega.{arith}
use mathlib.Core.Path.{refl}
use lib.ListN.{take, drop}
use borrow.Author.Rules.{rules}
use Rattle.rules.specs.Port.{Batch, no_batch, capacity}
use Rattle.rules.specs.Machine.{queue_at}
use Rattle.numbers.specs.Loops.{sum_more, sum_none}
use Rattle.tables.specs.View.{ring_of, view}
use Rattle.table_ports.specs.Moves.{count_most}
use Rattle.table_ports.proofs.queues.rows_in.Goals as goal

pub overflow_add-rows : goal.overflow_add-rows
overflow_add-rows c =
    let s = c.args.s.now in
    let m = count_most s (search rules) c.args.x.at (search rules) (ring_of capacity (take 2 (drop (17487 + c.args.x.at * 2) s))) refl in
    omega (arith, m, c.queue_len-n.ensures, c.loop-i.invariant.0)

pub loop-i-preserved : goal.loop-i-preserved
loop-i-preserved c =
    let q = queue_at (view c.args.s.now) c.args.x.at in (
      omega (arith, c.loop-i.invariant.0),
      sum_more (λ (b : Batch). b.rows) q c.loop-i.i c.loop-i.rows c.loop-i.invariant.1 no_batch c.batch_at.result.rows (omega (arith, c.queue_len-n.ensures))
          (λ i. (c.batch_at.ensures.result_value i).rows),
    )

pub returns : goal.returns
returns c =
    sum_none (λ (b : Batch). b.rows) (queue_at (view c.args.s.now) c.args.x.at) c.loop-i.i c.loop-i.rows c.loop-i.invariant.1
    (omega (arith, c.queue_len-n.ensures))
