-- `lowering::walk::next_child` meets its contract.
use native.Mathlib.Omega.{arith}
use mathlib.Core.Path.{refl}
use Rattle.tables.specs.View.{view}
use Rattle.lowering.specs.Walk.{next_here, next_on, next_end}
use Rattle.lowering.proofs.walk.next_child.Goals as goal

pub loop-c-init : goal.loop-c-init
loop-c-init c = refl

pub returns-then-is_kid : goal.returns-then-is_kid
returns-then-is_kid c = record {
  value = next_here (view c.args.s.now).job _ _ _ _ _ c.load_node-x.ensures c.is_kid.ensures c.loop-c.invariant c.if-is_kid.true;
  upper_bound = omega (arith, c.loop-c-test.true);
}

pub loop-c-preserved : goal.loop-c-preserved
loop-c-preserved c =
    next_on (view c.args.s.now).job _ _ _ _ _ c.load_node-x.ensures c.is_kid.ensures c.loop-c.invariant c.if-is_kid.false

pub returns : goal.returns
returns c = record {
  value = next_end (view c.args.s.now).job c.requires.job_ok _ _ c.loop-c.c c.loop-c-test.false c.loop-c.invariant;
  upper_bound = tt;
}
