-- `node_records::join::sum` meets its contract.
use native.Mathlib.Omega.{arith}
use Rattle.node_records.proofs.KidLaws.{blank, sum_end, sum_more}
use Rattle.node_records.proofs.join.sum.Goals as goal

pub loop-c-preserved : goal.loop-c-preserved
loop-c-preserved c =
    let m = sum_more c.args.nodes.now c.args.kids.now c.loop-c.c-index c.loop-c-test.true c.requires c.from.result c.from.ensures blank c.args.rows
    c.measure-total.result c.measure-total.ensures.value in
    record { few = omega (arith, c.measure-total.ensures.upper_bound, c.loop-c.invariant.few); is = omega (arith, c.loop-c.invariant.is, m) }

pub returns : goal.returns
returns c =
    let e = sum_end c.args.nodes.now c.args.kids.now c.loop-c.c-index c.args.rows c.loop-c-test.false in omega (arith, c.loop-c.invariant.is, e)
