-- `claims::share_ports::make_ports` meets its contract.
use borrow.Author.Rules.{rules}
use mathlib.Core.Path.{refl, ◌∙◌}
use Prim.Native.Nat.{◌*◌}
use native.Mathlib.Omega.{arith}
use Rattle.tables.specs.View.{view}
use Rattle.claims.specs.Pairs.{few_splits}
use Rattle.claims.specs.Made.{all_ports, making_start, leaf_made, making_end}
use Rattle.claims.proofs.share_ports.make_ports.Goals as goal

pub loop-i-init : goal.loop-i-init
loop-i-init c =
    (making_start c.args.l c.node_count-n.result (view c.args.s.now) (few_splits _ (search rules)) c.node_count-n.ensures.value, refl)

pub loop-i-preserved : goal.loop-i-preserved
loop-i-preserved c = (
  leaf_made (all_ports (view c.args.s.now) c.args.l) c.args.l c.node_count-n.result c.loop-i.i (view c.args.s.now) _ _
      c.loop-i-test.true c.make_leaf.ensures.0 c.loop-i.invariant.0,
  c.make_leaf.ensures.1 ∙ c.loop-i.invariant.1,
)

pub returns : goal.returns
returns c = (
  making_end (all_ports (view c.args.s.now) c.args.l) c.args.l (16 * c.node_count-n.result) (16 * c.loop-i.i) (view c.args.s.now) _
      (omega (arith, c.loop-i-test.false)) c.loop-i.invariant.0,
  c.loop-i.invariant.1,
)
