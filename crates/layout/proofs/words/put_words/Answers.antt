-- `layout::words::put_words` meets its contract: the first i numbers are written.
use mathlib.Core.Path.{refl, sym, ap, ◌∙◌}
use native.Mathlib.Omega.{arith}
use native.Mathlib.Numerals.{add-one}
use borrow.Author.Rules.{rules}
use lib.ListN.{length, get_or}
use lib.Seq.{take-suc, take_all}
use Rattle.layout.specs.Numbers.{word}
use Rattle.layout.specs.Words.{word_back}
use Rattle.layout.specs.Records.{table, table_wrote, length_table}
use Rattle.layout.proofs.words.put_words.Goals as goal

pub loop-i-preserved : goal.loop-i-preserved
loop-i-preserved c =
    let i = c.loop-i.i in
    let h = c.loop-i-test.true in
    let e = c.copy_from_slice.ensures.after ∙ c.to_le_bytes.ensures in
    rw (
      add-one i,
      table_wrote word 4 (length c.args.from.now) c.loop-i.r i c.copy_from_slice.new.self 0 h (omega (arith, c.loop-i.auto.r, c.requires)) (ap length e),
      take-suc c.args.from.now i 0 h,
      c.loop-i.invariant,
      e,
      word_back (get_or c.args.from.now i 0) (search rules),
    ) refl

pub returns : goal.returns
returns c =
    let n = length_table word 4 (length c.args.from.now) c.loop-i.r in
    sym (take_all c.loop-i.i (table word 4 (length c.args.from.now) c.loop-i.r) (omega (arith, n, c.loop-i-test.false))) ∙ c.loop-i.invariant ∙ take_all
    c.loop-i.i c.args.from.now c.loop-i-test.false
