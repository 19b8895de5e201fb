-- `claims::share_ports::make_open` meets its contract.
use mathlib.Core.Path.{◌∙◌}
use Prim.Native.Nat.{◌+◌, ◌*◌}
use native.Mathlib.Omega.{arith}
use Rattle.tables.specs.View.{view}
use Rattle.claims.specs.Made.{leaf_ports, making_next, leaf_end}
use Rattle.claims.proofs.share_ports.make_open.Goals as goal

pub loop-y-preserved : goal.loop-y-preserved
loop-y-preserved c = (
  making_next (leaf_ports (view c.args.s.now) c.args.l c.args.i.at) c.args.l c.args.i.at (16 * c.args.i.at + 16) c.loop-y.y _ _ (view c.args.s.now) _ _
      (omega (arith, c.split_count-n.ensures.upper_bound)) (omega (arith, c.loop-y.auto.y, c.split_count-n.ensures.upper_bound)) c.requires.i_value
      (omega (arith, c.loop-y.auto.y, c.split_count-n.ensures.value, c.split_count-n.ensures.upper_bound)) c.reach_of-reach.ensures.start_value
      c.reach_of-reach.ensures.end_value c.made_if.ensures.0
      c.loop-y.invariant.0,
  c.made_if.ensures.1 ∙ c.loop-y.invariant.1,
)

pub returns : goal.returns
returns c = (
  leaf_end c.args.l c.args.i.at c.loop-y.y (view c.args.s.now) _ (omega (arith, c.split_count-n.ensures.value))
      (omega (arith, c.loop-y.auto.y-end (omega arith), c.split_count-n.ensures.upper_bound)) c.loop-y.invariant.0,
  c.loop-y.invariant.1,
)
