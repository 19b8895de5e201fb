-- `lowering::joins::join_ports` meets its contract.
use mathlib.Core.Path.{refl, ◌∙◌}
use native.Mathlib.Omega.{arith}
use lib.ListN.{take}
use Rattle.tables.specs.View.{view}
use Rattle.lowering.specs.Joins.{joining_next, joining_end, taken_length, taken_at, taken_low}
use Rattle.lowering.proofs.joins.join_ports.Goals as goal

pub loop-i-init : goal.loop-i-init
loop-i-init c = (refl, refl)

pub bounds-ports-i : goal.bounds-ports-i
bounds-ports-i c =
    omega (arith, (c.well_formed.1.1.0.1.1.1.0.1.0.1), c.requires.len_bound, c.loop-i-test.true)

pub invariant_of-join_port : goal.invariant_of-join_port
invariant_of-join_port c =
    record {
      below = taken_low c.args.xs.ports c.args.xs.len (c.well_formed.1.1.0.1.1.1.0.1.0.1) c.requires.len_bound _ _ c.loop-i-test.true
          c.from.ensures c.requires.all;
    }

pub loop-i-preserved : goal.loop-i-preserved
loop-i-preserved c = (
  joining_next _ _ _ (take c.args.xs.len c.args.xs.ports) (view c.args.s.now) _ _
      (rw (taken_length c.args.xs.ports c.args.xs.len (c.well_formed.1.1.0.1.1.1.0.1.0.1) c.requires.len_bound) c.loop-i-test.true)
      (taken_at c.args.xs.ports c.args.xs.len (c.well_formed.1.1.0.1.1.1.0.1.0.1) c.requires.len_bound _ _ c.loop-i-test.true
      c.from.ensures) c.join_port.ensures.0 c.loop-i.invariant.0,
  c.join_port.ensures.1 ∙ c.loop-i.invariant.1,
)

pub returns : goal.returns
returns c = (
  joining_end c.args.q.at c.loop-i.i (take c.args.xs.len c.args.xs.ports) (view c.args.s.now) _
      (rw (taken_length c.args.xs.ports c.args.xs.len (c.well_formed.1.1.0.1.1.1.0.1.0.1) c.requires.len_bound) c.loop-i-test.false)
      c.loop-i.invariant.0,
  c.loop-i.invariant.1,
)
