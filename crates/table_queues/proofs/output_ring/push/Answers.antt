-- `table_queues::output_ring::push` meets its contract.
use mathlib.Core.Path.{◌≡◌, sym, ◌∙◌}
use native.Mathlib.Omega.{arith}
use borrow.Author.Tests.{ltb-true, ltb-false}
use Rattle.rules.specs.Port.{capacity}
use Rattle.tables.specs.Rings.{appended_not, appended_one}
use lib.ListN.{length}
use Rattle.tables.specs.Outputs.{outputs_in, outputs_length, outputs_pushed}
use Rattle.table_queues.specs.Output.{output_of}
use borrow.Author.Rules.{rules}
use Rattle.table_queues.proofs.output_ring.push.Goals as goal

pub returns-then-not-has_place : goal.returns-then-not-has_place
returns-then-not-has_place c =
    let q = c.settle-q.result in
    let u = c.settle-q.new.r in
    let n : q.capacity ≡ capacity = λ i. (c.settle-q.ensures.value i).capacity in
    let f = ltb-false q.count q.capacity (sym c.has_place.ensures ∙ c.if-not-has_place.true) in
    let r = appended_not capacity (output_of c.args.x) (outputs_in u) (outputs_in c.args.r.now) c.settle-q.ensures.r_unchanged
    (omega (arith, outputs_length u q c.settle-q.ensures.value c.settle-q.ensures.result_value)) in record {
      value = r.0;
      r_after = r.1;
    }

pub returns : goal.returns
returns c =
    let z : length c.settle-q.new.r ≡ 306 = search rules in
    let q = c.settle-q.result in
    let u = c.settle-q.new.r in
    let n : q.capacity ≡ capacity = λ i. (c.settle-q.ensures.value i).capacity in
    let f = ltb-true q.count q.capacity (sym c.has_place.ensures ∙ c.if-not-has_place.false) in
    rw (c.place.ensures.value, c.len.ensures, c.pushed.ensures)
    (let r = appended_one capacity (output_of c.args.x) (outputs_in u) (outputs_in c.args.r.now) _ c.settle-q.ensures.r_unchanged
    (omega (arith, outputs_length u q c.settle-q.ensures.value c.settle-q.ensures.result_value))
    (outputs_pushed u q c.settle-q.ensures.value c.settle-q.ensures.result_value z c.store.new.r (output_of c.args.x) (omega arith) (search rules)
    c.store.ensures) in record {
      value = r.0;
      r_after = r.1;
    })
