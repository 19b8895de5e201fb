-- `table_queues::output_ring::settle` meets its contract.
use mathlib.Core.Bool.{true}
use Rattle.queue.specs.Queue.{sound}
use mathlib.Core.Path.{◌≡◌, sym, ◌∙◌}
use native.Mathlib.Omega.{arith}
use Rattle.rules.specs.Port.{capacity}
use Rattle.queue.specs.Held.{settled_sound}
use Rattle.tables.specs.Outputs.{outputs_settled}
use Rattle.table_queues.proofs.output_ring.settle.Goals as goal

pub returns : goal.returns
returns c =
    let q = c.ring_of-q.result in
    let n : q.capacity ≡ capacity = λ i. (c.ring_of-q.ensures i).capacity in
    let e : sound c.settled-one.result ≡ true = rw c.settled-one.ensures (settled_sound q (omega arith)) in
    let w = outputs_settled c.args.r.now q c.ring_of-q.ensures (sym c.is_sound.ensures ∙ c.if-is_sound.false) c.settled-one.result c.settled-one.ensures in
    rw c.copy_from_slice.ensures.after (record { r_unchanged = w.0; value = w.1; result_value = e })
