-- `check_job::pops::pops` meets its contract.
use Prim.Native.Nat.{◌+◌, ◌-◌}
use native.Mathlib.Omega.{arith}
use mathlib.Core.Path.{◌≡◌, sym, ◌∙◌}
use Rattle.jobs.specs.Job.{node_of}
use Rattle.tables.specs.View.{view}
use Rattle.check_job.specs.Stack.{pops_end, pops_stop, pops_none, pops_next}
use Rattle.check_job.proofs.pops.pops.Goals as goal

pub returns-then-not-is_kid-clause-result_value : goal.returns-then-not-is_kid-clause-result_value
returns-then-not-is_kid-clause-result_value c =
    let e : c.loop-k.k - 1 + 1 ≡ c.loop-k.k = omega arith in
    (rw e at c.closed.ensures.result_value) ∙ sym (c.loop-k.invariant ∙ pops_stop (view c.args.s.now).job.nodes c.args.i (node_of c.args.x) c.requires.x_value c.loop-k.rest c.args.free.now c.loop-k.k (omega arith) (node_of c.load_node-y.result)
    (rw c.from.ensures at c.load_node-y.ensures)
    (sym c.is_kid.ensures ∙ c.if-not-is_kid.true))

pub returns-then-not-child_fits-clause-result_value : goal.returns-then-not-child_fits-clause-result_value
returns-then-not-child_fits-clause-result_value c =
    sym (c.loop-k.invariant ∙ pops_none (view c.args.s.now).job.nodes c.args.i (node_of c.args.x) c.requires.x_value c.loop-k.rest c.args.free.now c.loop-k.k (omega arith) (node_of c.load_node-y.result)
    (rw c.from.ensures at c.load_node-y.ensures)
    (sym c.is_kid.ensures ∙ c.if-not-is_kid.false) (sym c.child_fits.ensures ∙ c.if-not-child_fits.true))

pub loop-k-preserved : goal.loop-k-preserved
loop-k-preserved c =
    rw c.less-rest.ensures
    (c.loop-k.invariant ∙ pops_next (view c.args.s.now).job.nodes c.args.i (node_of c.args.x) c.requires.x_value c.loop-k.rest c.args.free.now c.loop-k.k (omega arith) (node_of c.load_node-y.result)
    (rw c.from.ensures at c.load_node-y.ensures)
    (sym c.is_kid.ensures ∙ c.if-not-is_kid.false) (sym c.child_fits.ensures ∙ c.if-not-child_fits.false))

pub returns-clause-result_value : goal.returns-clause-result_value
returns-clause-result_value c =
    let z : c.loop-k.k ≡ 0 = omega arith in
    let q = c.loop-k.invariant ∙ pops_end (view c.args.s.now).job.nodes c.args.i (node_of c.args.x) c.requires.x_value c.loop-k.rest c.args.free.now c.loop-k.k (omega arith) in
    c.closed-2.ensures.result_value ∙ sym (rw z at q)
