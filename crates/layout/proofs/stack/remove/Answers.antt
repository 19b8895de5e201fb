-- `layout::stack::remove` meets its contract.
use native.Mathlib.Omega.{arith}
use mathlib.Core.Path.{refl, ap, ◌∙◌}
use Rattle.rules.specs.Pipelines.{without}
use Rattle.layout.specs.Numbers.{byte}
use Rattle.layout.specs.Removal.{removing_start, removing_next, removing_end}
use Rattle.layout.proofs.stack.remove.Goals as goal

pub loop-i-init : goal.loop-i-init
loop-i-init c = removing_start _ _ _

pub loop-i-preserved : goal.loop-i-preserved
loop-i-preserved c =
    let t = c.settle.new.r in
    removing_next c.args.k (byte t 0) c.loop-i.i c.loop-i.j t c.loop-i.r _ (omega (arith, c.from-i-end.ensures, c.loop-i-test.true))
    c.settle.ensures.r_in_bounds c.loop-i.invariant refl _ c.from-j.ensures

pub returns : goal.returns
returns c =
    let t = c.settle.new.r in
    removing_end c.args.k (byte t 0) c.loop-i.i c.loop-i.j t c.loop-i.r refl c.settle.ensures.r_in_bounds
    (omega (arith, c.from-i-end.ensures, c.loop-i-test.false)) c.loop-i.invariant
    ∙ ap (without c.args.k) c.settle.ensures.r_unchanged
