-- `lines::digits::decimal` meets its contract: the digits that are there and those of what is left.
use Rattle.lines.specs.Digits.{below, fewer, digit_more, digit_last, from_on}
use Rattle.lines.specs.Page.{page, puts}
use lib.ListN.{length-set}
use native.Mathlib.Omega.{arith}
use Prim.Native.Nat.{ℕ, ◌-◌}
use mathlib.Core.List.{List}
use mathlib.Core.Path.{refl, sym, ap, ◌∙◌}
use Rattle.lines.proofs.digits.decimal.Goals as goal

pub loop-left-init : goal.loop-left-init
unfolding below
loop-left-init c = (omega arith, omega arith, refl, omega arith, refl)

pub loop-left-preserved : goal.loop-left-preserved
loop-left-preserved c =
    let f = fewer c.loop-left.from c.loop-left.left c.loop-left.invariant.0 c.loop-left.invariant.3 c.loop-left-test.true in (
      omega (arith, f.0),
      omega (arith, c.loop-left.invariant.1),
      length-set c.loop-left.bytes (c.loop-left.from - 1) c.digit.result ∙ c.loop-left.invariant.2,
      f.1,
      c.loop-left.invariant.4 ∙ digit_more c.loop-left.bytes c.loop-left.from c.loop-left.left c.digit.result c.loop-left.invariant.0
          (omega (arith, c.loop-left.invariant.1, c.loop-left.invariant.2)) c.loop-left-test.true c.digit.ensures,
    )

pub returns : goal.returns
returns c =
    let i = c.loop-left.invariant in
    c.text.ensures ∙ ap (λ (l : List ℕ). puts l (page c.args.out.now c.args.w))
    (from_on _ (c.loop-left.from - 1) 10 (length-set c.loop-left.bytes (c.loop-left.from - 1) c.digit-2.result ∙ i.2)
    ∙ sym (i.4 ∙ digit_last c.loop-left.bytes c.loop-left.from c.loop-left.left c.digit-2.result
    i.0 (omega (arith, i.1, i.2)) c.loop-left-test.false c.digit-2.ensures))
