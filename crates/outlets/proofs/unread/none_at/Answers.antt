-- `outlets::unread::none_at` meets its contract.
use mathlib.Core.Path.{◌≡◌, sym, ap, ◌∙◌}
use Prim.Native.Nat.{ℕ, ◌+◌, ◌-◌, ◌*◌}
use native.Mathlib.Omega.{arith}
use Rattle.tables.specs.View.{view}
use Rattle.outlets.specs.Unread.{none_of, port_not, port_is, port_end, leaf_other}
use Rattle.outlets.proofs.unread.none_at.Goals as goal

pub returns-then-not-same_segment : goal.returns-then-not-same_segment
returns-then-not-same_segment c =
    sym (leaf_other (view c.args.s.now) c.args.p c.args.l.at (sym c.same_segment.ensures ∙ c.if-not-same_segment.true))

pub loop-x-init : goal.loop-x-init
loop-x-init c =
    let x : ℕ = 72 + 16 * c.args.l.at in
    let z : x + 16 - x ≡ 16 = omega arith in
    ap (λ (n : ℕ). none_of (view c.args.s.now) c.args.p x n) (sym z)

pub returns-then-is_outlet : goal.returns-then-is_outlet
returns-then-is_outlet c =
    sym (c.loop-x.invariant ∙ port_is (view c.args.s.now) c.args.p c.loop-x.x _ c.loop-x-test.true (sym c.is_outlet.ensures ∙ c.if-is_outlet.true))

pub loop-x-preserved : goal.loop-x-preserved
loop-x-preserved c =
    c.loop-x.invariant ∙ port_not (view c.args.s.now) c.args.p c.loop-x.x _ c.loop-x-test.true (sym c.is_outlet.ensures ∙ c.if-is_outlet.false)

pub returns : goal.returns
returns c =
    sym (c.loop-x.invariant ∙ port_end (view c.args.s.now) c.args.p c.loop-x.x _ c.loop-x-test.false)
