-- `claims::claimants::first_for` meets its contract.
use borrow.Author.Rules.{rules}
use mathlib.Core.Path.{sym, ◌∙◌}
use Prim.Native.Nat.{◌*◌}
use native.Mathlib.Omega.{arith}
use Rattle.tables.specs.View.{view}
use Rattle.claims.specs.Pairs.{few_splits, first_start, first_none}
use Rattle.claims.specs.Leaves.{first_here, first_next}
use Rattle.claims.proofs.claimants.first_for.Goals as goal

pub loop-i-init : goal.loop-i-init
loop-i-init c =
    first_start (view c.args.s.now) c.args.l c.args.t.at (16 * c.node_count-n.result) (few_splits _ (search rules))
    (omega (arith, c.node_count-n.ensures.value))

pub returns-then-is_claimant : goal.returns-then-is_claimant
returns-then-is_claimant c =
    first_here (view c.args.s.now) c.args.l c.args.t.at c.node_count-n.result c.loop-i.i c.args.t.below c.loop-i-test.true c.loop-i.invariant
    (sym c.is_claimant.ensures ∙ c.if-is_claimant.true)

pub loop-i-preserved : goal.loop-i-preserved
loop-i-preserved c =
    first_next (view c.args.s.now) c.args.l c.args.t.at c.node_count-n.result c.loop-i.i c.args.t.below c.loop-i-test.true c.loop-i.invariant
    (sym c.is_claimant.ensures ∙ c.if-is_claimant.false)

pub returns : goal.returns
returns c =
    first_none (view c.args.s.now) c.args.l c.args.t.at (16 * c.node_count-n.result) (16 * c.loop-i.i) (omega (arith, c.loop-i-test.false))
    c.loop-i.invariant
