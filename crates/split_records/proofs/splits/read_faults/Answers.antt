-- `split_records::splits::read_faults` meets its contract.
use native.Mathlib.Omega.{arith}
use mathlib.Core.Path.{◌≡◌, sym, ◌∙◌}
use Prim.Native.Nat.{◌+◌, ◌*◌, ◌-◌}
use Rattle.split_records.proofs.SplitLaws.{fault_empty, fault_late, fault_past, fault_none, fault_end}
use Rattle.split_records.proofs.splits.read_faults.Goals as goal

pub loop-i-init : goal.loop-i-init
loop-i-init c =
    let e : c.args.at + 8 * 0 ≡ c.args.at = omega arith in
    let f : c.args.n - 0 ≡ c.args.n = omega arith in
    rw (e, f)

pub returns-then-x-eq0 : goal.returns-then-x-eq0
returns-then-x-eq0 c =
    sym (c.loop-i.invariant ∙ fault_empty c.args.size c.loop-i.last c.args.b.now (c.args.at + 8 * c.loop-i.i) c.args.n c.loop-i.i c.loop-i-test.true
    c.run_at-x.result c.run_at-x.ensures c.if-x-eq0.true)

pub returns-then-start-last : goal.returns-then-start-last
returns-then-start-last c =
    sym (c.loop-i.invariant ∙ fault_late c.args.size c.loop-i.last c.args.b.now (c.args.at + 8 * c.loop-i.i) c.args.n c.loop-i.i c.loop-i-test.true
    c.run_at-x.result c.run_at-x.ensures c.if-x-eq0.false (omega arith))

pub returns-then-size-end : goal.returns-then-size-end
returns-then-size-end c =
    sym (c.loop-i.invariant ∙ fault_past c.args.size c.loop-i.last c.args.b.now (c.args.at + 8 * c.loop-i.i) c.args.n c.loop-i.i c.loop-i-test.true
    c.run_at-x.result c.run_at-x.ensures c.if-x-eq0.false (omega arith) c.end_of-end.result c.end_of-end.ensures c.if-size-end.true)

pub loop-i-preserved : goal.loop-i-preserved
loop-i-preserved c =
    let e : c.args.at + 8 * (c.loop-i.i + 1) ≡ c.args.at + 8 * c.loop-i.i + 8 = omega arith in
    rw e (c.loop-i.invariant ∙ fault_none c.args.size c.loop-i.last c.args.b.now (c.args.at + 8 * c.loop-i.i) c.args.n c.loop-i.i c.loop-i-test.true
    c.run_at-x.result c.run_at-x.ensures c.if-x-eq0.false (omega arith) c.end_of-end.result c.end_of-end.ensures c.if-size-end.false)

pub returns : goal.returns
returns c =
    sym (c.loop-i.invariant ∙ fault_end c.args.size c.loop-i.last c.args.b.now (c.args.at + 8 * c.loop-i.i) c.args.n c.loop-i.i c.loop-i-test.false)
