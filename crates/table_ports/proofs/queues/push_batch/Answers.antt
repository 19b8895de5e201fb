-- `table_ports::queues::push_batch` meets its contract.
use mathlib.Core.Path.{◌≡◌, sym, ◌∙◌}
use borrow.Author.Tests.{ltb-true, ltb-false}
use Rattle.rules.specs.Port.{capacity}
use Rattle.rules.specs.Machine.{queue_at, set_queue}
use Rattle.batches.specs.Batch.{batch_of}
use Rattle.tables.specs.View.{Sized}
use Rattle.tables.specs.Rings.{appended}
use Rattle.table_ports.specs.Moves.{after_leaves, none_is, full_leaves, room_is, push_leaves}
use borrow.Author.Rules.{rules}
use Rattle.table_ports.proofs.queues.push_batch.Goals as goal

pub returns-then-not-has_place : goal.returns-then-not-has_place
returns-then-not-has_place c =
    let x = c.args.x.at in
    let b = batch_of c.args.b in
    let s = c.settle-q.new.s in
    let q = c.settle-q.result in
    let n : q.capacity ≡ capacity = λ i. (c.settle-q.ensures.value i).capacity in
    let l = rw n at (ltb-false q.count q.capacity (sym c.has_place.ensures ∙ c.if-not-has_place.true)) in
    let w = after_leaves c.args.s.now s s (λ m. set_queue x (appended capacity b (queue_at m x)) m) c.settle-q.ensures.s_unchanged
    c.settle-q.ensures.s_unchanged_2
    (full_leaves s (search rules) x (search rules) q c.settle-q.ensures.value c.settle-q.ensures.result_value b l) in
    record {
      value = sym (rw c.settle-q.ensures.s_unchanged at (none_is s (search rules) x (search rules) q c.settle-q.ensures.value
          c.settle-q.ensures.result_value l));
      becomes = (w.0, w.1);
    }

pub returns : goal.returns
returns c =
    let s = c.settle-q.new.s in
    let z : Sized s = search rules in
    let args = c.args in
    let x = args.x.at in
    let b = batch_of args.b in
    let q = c.settle-q.result in
    let t = c.store_ring.new.s in
    let n : q.capacity ≡ capacity = λ i. (c.settle-q.ensures.value i).capacity in
    let l = rw n at (ltb-true q.count q.capacity (sym c.has_place.ensures ∙ c.if-not-has_place.false)) in
    let w = after_leaves args.s.now s t (λ m. set_queue x (appended capacity b (queue_at m x)) m) c.settle-q.ensures.s_unchanged
    c.settle-q.ensures.s_unchanged_2
    (push_leaves s z x (search rules) q c.settle-q.ensures.value c.settle-q.ensures.result_value c.put_batch.new.r b l (search rules) c.put_batch.ensures
    c.len.result c.batch_place-p.result c.len.ensures c.batch_place-p.ensures.value c.pushed.result c.pushed.ensures t c.store_ring.ensures) in
    record {
      value = sym (rw c.settle-q.ensures.s_unchanged at (room_is s z x (search rules) q c.settle-q.ensures.value c.settle-q.ensures.result_value l));
      becomes = (w.0, w.1);
    }
