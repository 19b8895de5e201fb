-- `outlets::sweep::sweep_leaf` meets its contract.
use mathlib.Core.Path.{◌≡◌, refl, sym, ap, ◌∙◌}
use Prim.Native.Nat.{ℕ, ◌+◌, ◌-◌, ◌*◌, ◌<◌}
use native.Mathlib.Omega.{arith}
use borrow.Author.Rules.{rules}
use Rattle.tables.specs.View.{view}
use Rattle.outlets.specs.Outlet.{outlet_other}
use Rattle.outlets.specs.Able.{able_next}
use Rattle.outlets.specs.Act.{sweep, sweep_next, sweep_end, sweep_none}
use Rattle.outlets.proofs.sweep.sweep_leaf.Goals as goal

pub returns-then-not-same_segment : goal.returns-then-not-same_segment
returns-then-not-same_segment c =
    let m = view c.args.s.now in (
      sweep_none c.args.a c.args.p 16 (72 + 16 * c.args.l.at) m (λ y i j. outlet_other m c.args.p c.args.l.at y
          (sym c.same_segment.ensures ∙ c.if-not-same_segment.true) i j),
      refl,
    )

pub loop-x-init : goal.loop-x-init
loop-x-init c =
    let x : ℕ = 72 + 16 * c.args.l.at in
    (search rules, ap (λ (n : ℕ). sweep c.args.a c.args.p n x (view c.args.s.now)) (omega arith), refl)

pub act_if-requires : goal.act_if-requires
act_if-requires c =
    record { able = c.loop-x.invariant.0 }

pub loop-x-preserved : goal.loop-x-preserved
loop-x-preserved c =
    let a = c.args.a in
    let p = c.args.p in
    let end : ℕ = 72 + 16 * c.args.l.at + 16 in
    let t : c.loop-x.x < end = c.loop-x-test.true in (
      rw c.act_if.ensures.0 (able_next a (view c.loop-x.s) p c.loop-x.x (omega (arith, c.loop-x.auto.x)) c.loop-x.invariant.0),
      rw c.act_if.ensures.0 (sym (sweep_next a p (end - c.loop-x.x) (end - (c.loop-x.x + 1)) c.loop-x.x (c.loop-x.x + 1) (view c.loop-x.s)
          (omega (arith, t)) (omega arith)) ∙ c.loop-x.invariant.1),
      c.act_if.ensures.1 ∙ c.loop-x.invariant.2,
    )

pub returns : goal.returns
returns c =
    let end : ℕ = 72 + 16 * c.args.l.at + 16 in
    let z : end - c.loop-x.x ≡ 0 = omega (arith, c.loop-x-test.false) in
    (sym (sweep_end c.args.a c.args.p (end - c.loop-x.x) c.loop-x.x (view c.loop-x.s) z) ∙ c.loop-x.invariant.1, c.loop-x.invariant.2)
