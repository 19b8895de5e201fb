-- `table_queues::number_ring::entry` meets its contract.
-- `table_queues::number_ring::entry` meets its contract.
use mathlib.Core.Path.{◌≡◌, sym, ◌∙◌}
use native.Mathlib.Omega.{arith}
use Rattle.tables.specs.View.{news_from}
use Rattle.tables.specs.News.{news_bad, news_length, news_entry}
use Rattle.table_queues.specs.Entries.{only}
use borrow.Author.Rules.{rules}
use Rattle.table_queues.proofs.number_ring.entry.Goals as goal

pub returns-then-not-is_sound : goal.returns-then-not-is_sound
returns-then-not-is_sound c =
    only 0 255 (news_from c.args.r.now) c.args.k
    (news_bad c.args.r.now c.ring_of-q.result c.ring_of-q.ensures (sym c.is_sound.ensures ∙ c.if-not-is_sound.true)) (search rules)

pub place-requires : goal.place-requires
place-requires c =
    let q = c.ring_of-q.result in
    let n : q.capacity ≡ 24 = λ i. (c.ring_of-q.ensures i).capacity in
    let e = news_length c.args.r.now q c.ring_of-q.ensures (sym c.is_sound.ensures ∙ c.if-not-is_sound.false) in
    record { i_le_count = omega (arith, e); capacity_nonzero = omega arith }

pub returns : goal.returns
returns c =
    rw c.place.ensures.value
    (news_entry c.args.r.now c.ring_of-q.result c.ring_of-q.ensures (sym c.is_sound.ensures ∙ c.if-not-is_sound.false) c.args.k
    (search rules))
