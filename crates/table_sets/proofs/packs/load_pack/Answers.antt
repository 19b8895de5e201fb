-- `table_sets::packs::load_pack` meets its contract.
use borrow.Author.Rules.{rules}
use Rattle.table_sets.specs.Codes.{seen_at, both}
use Rattle.table_sets.proofs.packs.load_pack.Goals as goal

pub returns : goal.returns
returns c =
    both
    (seen_at c.args.s.now (search rules) c.args.p.at (search rules) c.seen_of.result c.seen_of-2.result
    c.seen_of-3.result c.seen_of-4.result
    c.counted.result c.counted-2.result
    c.counted-3.result c.counted-len.result
    c.seen_of.ensures c.seen_of-2.ensures c.seen_of-3.ensures c.seen_of-4.ensures
    c.counted.ensures.value c.counted-2.ensures.value
    c.counted-3.ensures.value c.counted-len.ensures.value)
    c.load_waits-waiting.ensures
