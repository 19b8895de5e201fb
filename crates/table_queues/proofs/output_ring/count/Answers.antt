-- `table_queues::output_ring::count` meets its contract.
use mathlib.Core.Path.{ap, ◌∙◌}
use Rattle.queue.specs.declared.capacity.Queue.{Queue}
use Rattle.tables.specs.Outputs.{outputs_count}
use Rattle.table_queues.proofs.output_ring.count.Goals as goal

pub returns : goal.returns
returns c =
    c.len.ensures ∙ ap (λ (q : Queue). q.count) c.settled.ensures ∙ outputs_count c.args.r.now c.ring_of.result c.ring_of.ensures
