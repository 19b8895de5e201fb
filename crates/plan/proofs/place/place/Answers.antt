-- `plan::place::place` meets its contract. The invariant: the nodes from i on are placed, and the others are as they were.
use mathlib.Core.Path.{◌≡◌}
use Rattle.plan.proofs.place.place.Goals.{then-x, else-x}
use mathlib.Core.Option.{some}
use Prim.Native.Nat.{suc, ◌-◌, ◌≤◌, ◌<◌}
use native.Mathlib.Omega.{arith}
use lib.ListN.{length}
use Rattle.rules.specs.Job as rule
use Rattle.jobs.specs.Job.{front, node_of}
use Rattle.jobs.proofs.Front.{front_length}
use Rattle.plan.proofs.OffsetLaws.{row_low}
use Rattle.plan.proofs.StartLaws.{alone, child, parent_low}
use Rattle.plan.proofs.PlaceLaws.{placed_more, placed_all, alone_at, kid_at}
use Rattle.plan.proofs.place.place.Goals as goal

pub bounds-out-p : goal.bounds-out-p
bounds-out-p c =
    let h : length c.args.table ≡ 24 = c.well_formed.0.1.0.1 in
    let i = c.loop-i.i - 1 in
    omega (
      arith,
      c.requires.count_bound,
      parent_low c.args.table c.args.count i (omega (arith, c.requires.count_bound)) (omega (arith, c.loop-i.invariant.0, c.loop-i-test.true)) _
          (c.loop-i.invariant.1.kept i (omega (arith, c.loop-i-test.true))) c.from-p.result c.if-x.true c.from-p.ensures c.requires.tree_ok,
    )

pub overflow_add-x : goal.overflow_add-x
overflow_add-x c =
    let h : length c.args.table ≡ 24 = c.well_formed.0.1.0.1 in
    let table = c.args.table in
    let count = c.args.count in
    let i = c.loop-i.i - 1 in
    let p = c.from-p.result in
    let k : i < count = omega (arith, c.loop-i.invariant.0, c.loop-i-test.true) in
    let fit : count ≤ length table = omega (arith, c.requires.count_bound) in
    let up : (rule.node_at (front node_of table count) i).parent ≡ some p = child table count i fit k _
    (c.loop-i.invariant.1.kept i (omega (arith, c.loop-i-test.true))) p
    c.if-x.true c.from-p.ensures in
    omega (
      arith,
      row_low (front node_of table count) c.requires.tree_ok (omega (arith, c.requires.count_bound, front_length node_of table count fit)) i,
      kid_at table count i c.loop-i.i c.loop-i.out c.loop-i.invariant.1 (omega (arith, c.loop-i-test.true)) fit c.requires.count_bound
          c.requires.tree_ok _ (c.starts-start.ensures i k) p up,
    )

pub returns : goal.returns
returns c =
    let h : length c.args.table ≡ 24 = c.well_formed.0.1.0.1 in
    let z : c.loop-i.i ≡ 0 = omega (arith, c.loop-i-test.false) in
    placed_all c.args.table c.args.count c.loop-i.out (omega (arith, c.requires.count_bound)) (rw z at c.loop-i.invariant.1)

pub loop-i-preserved : goal.loop-i-preserved
loop-i-preserved c =
    let h : length c.args.table ≡ 24 = c.well_formed.0.1.0.1 in
    let table = c.args.table in
    let count = c.args.count in
    let i = c.loop-i.i - 1 in
    let s = c.loop-i.invariant.1 in
    let k : i < count = omega (arith, c.loop-i.invariant.0, c.loop-i-test.true) in
    let fit : count ≤ length table = omega (arith, c.requires.count_bound) in
    let last : c.loop-i.i ≡ suc i = omega (arith, c.loop-i-test.true) in
    let kept = s.kept i (omega arith) in
    let more = placed_more table count i c.loop-i.i c.loop-i.out s last (omega (arith, c.requires.count_bound, s.size)) in (
      omega arith,
      elim c.if-x.branch [
        | then-x w ↦ let p = w.from-p.result in
            rw w.x-is (more _ (kid_at table count i c.loop-i.i c.loop-i.out s last fit c.requires.count_bound c.requires.tree_ok _
            (c.starts-start.ensures i k) p (child table count i fit k _ kept p w.if-x.true w.from-p.ensures)))
        | else-x w ↦ rw w.x-is (more _ (alone_at table count i c.loop-i.i c.loop-i.out s last fit c.requires.count_bound c.requires.tree_ok _
            (c.starts-start.ensures i k) (alone table count i fit k _ kept w.if-x.false)))
      ],
    )
