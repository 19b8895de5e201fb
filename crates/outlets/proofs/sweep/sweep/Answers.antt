-- `outlets::sweep::sweep` meets its contract.
use mathlib.Core.Path.{refl, sym, ◌∙◌}
use Prim.Native.Nat.{◌+◌, ◌-◌, ◌*◌}
use native.Mathlib.Omega.{arith}
use borrow.Author.Rules.{rules}
use Rattle.tables.specs.View.{view}
use Rattle.outlets.specs.Able.{able_sweep}
use Rattle.outlets.specs.Act.{sweep_join, sweep_end}
use Rattle.outlets.proofs.sweep.sweep.Goals as goal

pub loop-l-init : goal.loop-l-init
loop-l-init c = (search rules, refl, refl)

pub sweep_leaf-requires : goal.sweep_leaf-requires
sweep_leaf-requires c = record { able = c.loop-l.invariant.0 }

pub loop-l-preserved : goal.loop-l-preserved
loop-l-preserved c =
    let a = c.args.a in
    let p = c.args.p in
    let l = c.loop-l.l in (
      rw c.sweep_leaf.ensures.0 (able_sweep a p 16 (72 + 16 * l) (view c.loop-l.s) (omega arith) c.loop-l.invariant.0),
      rw c.sweep_leaf.ensures.0 (sym (sweep_join a p 16 (384 - 16 * l) (384 - 16 * (l + 1)) (72 + 16 * l) (72 + 16 * (l + 1)) (view c.loop-l.s)
          (omega (arith, c.loop-l-test.true))
          (omega arith)) ∙ c.loop-l.invariant.1),
      c.sweep_leaf.ensures.1 ∙ c.loop-l.invariant.2,
    )

pub returns : goal.returns
returns c = (
  sym (sweep_end c.args.a c.args.p (384 - 16 * c.loop-l.l) (72 + 16 * c.loop-l.l) (view c.loop-l.s) (omega (arith, c.loop-l-test.false))) ∙
      c.loop-l.invariant.1,
  c.loop-l.invariant.2,
)
