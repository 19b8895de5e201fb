-- `table_ports::queues::pop_batch` meets its contract.
use mathlib.Core.Path.{sym, ◌∙◌}
use lib.ListN.{drop}
use borrow.Author.Tests.{eqb-true}
use Rattle.rules.specs.Machine.{queue_at, set_queue}
use Rattle.queue.specs.Held.{some_left}
use Rattle.table_ports.specs.Moves.{after_leaves, none_leaves, pop_leaves}
use borrow.Author.Rules.{rules}
use Rattle.table_ports.proofs.queues.pop_batch.Goals as goal

pub returns-then-is_empty : goal.returns-then-is_empty
returns-then-is_empty c =
    let x = c.args.x.at in
    let s = c.settle-q.new.s in
    let q = c.settle-q.result in
    after_leaves c.args.s.now s s (λ m. set_queue x (drop 1 (queue_at m x)) m) c.settle-q.ensures.s_unchanged c.settle-q.ensures.s_unchanged_2
    (none_leaves s (search rules) x (search rules) q c.settle-q.ensures.value c.settle-q.ensures.result_value
    (eqb-true q.count 0 (sym c.is_empty.ensures ∙ c.if-is_empty.true)))

pub returns : goal.returns
returns c =
    let x = c.args.x.at in
    let s = c.settle-q.new.s in
    let q = c.settle-q.result in
    after_leaves c.args.s.now s c.store_ring.new.s (λ m. set_queue x (drop 1 (queue_at m x)) m) c.settle-q.ensures.s_unchanged c.settle-q.ensures.s_unchanged_2
    (pop_leaves s (search rules) x (search rules) q c.settle-q.ensures.value c.settle-q.ensures.result_value
    (some_left q.count (sym c.is_empty.ensures ∙ c.if-is_empty.false))
    c.popped.result c.popped.ensures c.store_ring.new.s c.store_ring.ensures)
