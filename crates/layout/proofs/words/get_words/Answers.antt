-- `layout::words::get_words` meets its contract: the first i numbers are read.
use Prim.Native.Nat.{◌<◌}
use mathlib.Core.Path.{refl, sym, ◌∙◌}
use native.Mathlib.Omega.{arith}
use native.Mathlib.Numerals.{add-one}
use borrow.Author.Rules.{rules}
use lib.ListN.{length}
use lib.Seq.{take-suc-set, take_all}
use Rattle.layout.specs.Numbers.{word}
use Rattle.layout.specs.Records.{table, table_more, length_table}
use Rattle.layout.proofs.words.get_words.Goals as goal

pub loop-i-preserved : goal.loop-i-preserved
loop-i-preserved c =
    let i = c.loop-i.i in
    let h : i < length c.loop-i.to = search rules in
    rw (
      add-one i,
      take-suc-set c.loop-i.to i c.get_word.result h,
      table_more word 4 (length c.args.to.now) c.args.r.now i 0 c.loop-i-test.true,
      c.loop-i.invariant,
      c.get_word.ensures,
    ) refl

pub returns : goal.returns
returns c =
    let n = length_table word 4 (length c.args.to.now) c.args.r.now in
    sym (take_all c.loop-i.i c.loop-i.to (search rules)) ∙ c.loop-i.invariant ∙ take_all c.loop-i.i
    (table word 4 (length c.args.to.now) c.args.r.now) (omega (arith, n, c.loop-i-test.false))
