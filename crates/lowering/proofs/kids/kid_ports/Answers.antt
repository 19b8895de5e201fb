-- `lowering::kids::kid_ports` meets its contract.
use native.Mathlib.Omega.{arith}
use Rattle.tables.specs.View.{view}
use Rattle.lowering.specs.Kids.{listed_none, listed_next, listed_all}
use Rattle.lowering.proofs.kids.kid_ports.Goals as goal

pub loop-c-init : goal.loop-c-init
loop-c-init c = listed_none (view c.args.s.now).job _ _ _

pub with_kid-xs-requires : goal.with_kid-xs-requires
with_kid-xs-requires c =
    record {
      len_bound = omega
          (arith, c.args.n.below, c.loop-c-test.true, c.loop-c.invariant.0);
    }

pub loop-c-preserved : goal.loop-c-preserved
loop-c-preserved c =
    listed_next (view c.args.s.now).job c.args.k.at c.args.t c.args.n.at c.loop-c.c _ _ _ _ c.with_kid-xs.ensures.result_value c.with_kid-xs.ensures.len_value
    c.loop-c.invariant

pub returns : goal.returns
returns c =
    let w = listed_all (view c.args.s.now).job c.args.k.at c.args.t c.args.n.at c.loop-c.c _ _ c.requires.job_ok c.args.n.below
    c.loop-c.auto.c-end c.loop-c-test.false c.loop-c.invariant in record { result_value = w.0; len_value = w.1; len_bound = w.2 }
