-- `table_queues::number_ring::push` meets its contract.
use mathlib.Core.Path.{◌≡◌, sym, ◌∙◌}
use native.Mathlib.Omega.{arith}
use borrow.Author.Tests.{ltb-true, ltb-false}
use Rattle.tables.specs.Rings.{appended_not, appended_one}
use Rattle.tables.specs.View.{news_from}
use Rattle.tables.specs.News.{news_length, news_pushed}
use borrow.Author.Rules.{rules}
use Rattle.table_queues.proofs.number_ring.push.Goals as goal

pub returns-then-not-has_place : goal.returns-then-not-has_place
returns-then-not-has_place c =
    let q = c.settle-q.result in
    let u = c.settle-q.new.r in
    let n : q.capacity ≡ 24 = λ i. (c.settle-q.ensures.value i).capacity in
    let f = ltb-false q.count q.capacity (sym c.has_place.ensures ∙ c.if-not-has_place.true) in
    let r = appended_not 24 c.args.x (news_from u) (news_from c.args.r.now) c.settle-q.ensures.r_unchanged
    (omega (arith, news_length u q c.settle-q.ensures.value c.settle-q.ensures.result_value)) in record {
      value = r.0;
      r_after = r.1;
    }

pub returns : goal.returns
returns c =
    let q = c.settle-q.result in
    let u = c.settle-q.new.r in
    let n : q.capacity ≡ 24 = λ i. (c.settle-q.ensures.value i).capacity in
    let f = ltb-true q.count q.capacity (sym c.has_place.ensures ∙ c.if-not-has_place.false) in
    rw (c.place-at.ensures.value, c.len.ensures, c.pushed.ensures)
    (let r = appended_one 24 c.args.x (news_from u) (news_from c.args.r.now) _ c.settle-q.ensures.r_unchanged
    (omega (arith, news_length u q c.settle-q.ensures.value c.settle-q.ensures.result_value))
    (news_pushed u q c.settle-q.ensures.value c.settle-q.ensures.result_value (search rules) c.args.x (omega arith)) in record { value = r.0; r_after = r.1 })
