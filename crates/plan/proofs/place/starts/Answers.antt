-- `plan::place::starts` meets its contract. The invariant: the starts before i are found, and the sums are the offsets at i.
use mathlib.Core.Path.{◌≡◌, refl, ◌∙◌}
use Rattle.plan.proofs.place.starts.Goals.{then-x, else-x}
use Prim.Native.Nat.{◌≤◌}
use native.Mathlib.Omega.{arith}
use lib.ListN.{length}
use Rattle.jobs.specs.Job.{front, node_of}
use Rattle.plan.proofs.OffsetLaws.{offset_low}
use Rattle.plan.proofs.StartLaws.{alone, child, parent_low, share_is, started_first, started_alone, started_kid}
use Rattle.plan.proofs.place.starts.Goals as goal

pub loop-i-init : goal.loop-i-init
loop-i-init c = started_first (front node_of c.args.table c.args.count)

pub bounds-table-p : goal.bounds-table-p
bounds-table-p c =
    let h : length c.args.table ≡ 24 = c.well_formed.0.1.0.1 in
    omega (
      arith,
      c.requires.count_bound,
      parent_low c.args.table c.args.count c.loop-i.i (omega (arith, c.requires.count_bound)) c.loop-i-test.true _ refl c.from-p.result
          c.if-x.true c.from-p.ensures c.requires.tree_ok,
    )

pub bounds-sums-p : goal.bounds-sums-p
bounds-sums-p c = omega (
  arith,
  c.requires.count_bound,
  parent_low c.args.table c.args.count c.loop-i.i (omega (arith, c.requires.count_bound)) c.loop-i-test.true _ refl c.from-p.result
      c.if-x.true c.from-p.ensures c.requires.tree_ok,
)

pub bounds-sums-p-then-x : goal.bounds-sums-p-then-x
bounds-sums-p-then-x c = omega (
  arith,
  c.requires.count_bound,
  parent_low c.args.table c.args.count c.loop-i.i (omega (arith, c.requires.count_bound)) c.loop-i-test.true _ refl c.from-p.result
      c.if-x.true c.from-p.ensures c.requires.tree_ok,
)

pub overflow_add-sums : goal.overflow_add-sums
overflow_add-sums c =
    omega (
      arith,
      c.requires.count_bound,
      c.loop-i-test.true,
      c.loop-i.invariant.sum c.from-p.result,
      offset_low (front node_of c.args.table c.args.count) c.requires.tree_ok c.from-p.result
          c.loop-i.i,
      c.share.ensures.upper_bound,
    )

pub bounds-sums-p-then-x-2 : goal.bounds-sums-p-then-x-2
bounds-sums-p-then-x-2 c = omega (
  arith,
  c.requires.count_bound,
  parent_low c.args.table c.args.count c.loop-i.i (omega (arith, c.requires.count_bound)) c.loop-i-test.true _ refl c.from-p.result
      c.if-x.true c.from-p.ensures c.requires.tree_ok,
)

pub loop-i-preserved : goal.loop-i-preserved
loop-i-preserved c =
    let h : length c.args.table ≡ 24 = c.well_formed.0.1.0.1 in
    let table = c.args.table in
    let count = c.args.count in
    let i = c.loop-i.i in
    let s = c.loop-i.invariant in
    let fit : count ≤ length table = omega (arith, c.requires.count_bound) in
    elim c.if-x.branch [
      | then-x w ↦ let p = w.from-p.result in
          rw (w.starts-is, w.sums-is) (started_kid (front node_of table count) c.loop-i.starts c.loop-i.sums i s p w.share.result
          (child table count i fit c.loop-i-test.true _ refl p w.if-x.true w.from-p.ensures)
          (w.share.ensures.value ∙ share_is table count i fit c.loop-i-test.true _ refl p w.if-x.true w.from-p.ensures c.requires.tree_ok)
          (omega (arith, c.requires.count_bound, c.loop-i-test.true))
          (omega (
            arith,
            c.requires.count_bound,
            parent_low table count i fit c.loop-i-test.true _ refl p w.if-x.true w.from-p.ensures
                c.requires.tree_ok,
          )))
      | else-x w ↦ rw (w.starts-is, w.sums-is) (started_alone (front node_of table count) c.loop-i.starts c.loop-i.sums i s
          (alone table count i fit c.loop-i-test.true _ refl w.if-x.false))
    ]
