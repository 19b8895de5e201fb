-- `table_ports::queues::replace_front` meets its contract.
use mathlib.Core.List.{◌∷◌}
use lib.ListN.{drop}
use Rattle.rules.specs.Machine.{queue_at, set_queue}
use Rattle.batches.specs.Batch.{batch_of}
use Rattle.table_ports.specs.Moves.{after_leaves, front_leaves}
use borrow.Author.Rules.{rules}
use Rattle.table_ports.proofs.queues.replace_front.Goals as goal

pub returns : goal.returns
returns c =
    let x = c.args.x.at in
    let b = batch_of c.args.b in
    let s = c.settle-q.new.s in
    after_leaves c.args.s.now s _ (λ m. set_queue x (b ∷ drop 1 (queue_at m x)) m) c.settle-q.ensures.s_unchanged c.settle-q.ensures.s_unchanged_2
    (front_leaves s (search rules) x (search rules) c.settle-q.result c.settle-q.ensures.value c.settle-q.ensures.result_value c.put_batch.new.r b
    (rw c.settle-q.ensures.s_unchanged (search rules)) (search rules) c.put_batch.ensures c.batch_place-p.result c.batch_place-p.ensures.value)
