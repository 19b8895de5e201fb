-- `check_job::walk::walk` meets its contract.
use mathlib.Core.Path.{sym, ◌∙◌}
use Prim.Native.Nat.{◌-◌}
use native.Mathlib.Omega.{arith}
use Rattle.jobs.specs.Job.{node_of}
use Rattle.tables.specs.View.{view}
use Rattle.check_job.specs.Seen.{marked_next, new_count, distinct_next}
use Rattle.check_job.specs.Stack.{top_of}
use Rattle.check_job.specs.Walk.{walks_start, walks_end, walks_next, short_next, short_all}
use borrow.Author.Rules.{rules}
use Rattle.check_job.proofs.walk.walk.Goals as goal

pub loop-i-init : goal.loop-i-init
loop-i-init c = (
  omega arith,
  λ k h. absurd (omega arith),
  λ k h. absurd (omega arith),
  λ _ g k h. absurd (omega arith),
  walks_start
      (view c.args.s.now).job.nodes c.node_count-n.result _,
)

pub step-top-requires : goal.step-top-requires
step-top-requires c =
    record {
      x_value = c.load_node-x.ensures;
      i_in_bounds = omega (arith, c.loop-i-test.true, c.node_count-n.ensures.value);
      surely_new = new_count (view c.args.s.now).job.nodes c.loop-i.i (node_of c.load_node-x.result) c.loop-i.marks c.mark-fresh.result
          c.load_node-x.ensures c.loop-i.invariant.2 c.mark-fresh.ensures.value;
      top_le_i = (c.loop-i.invariant.0, omega (arith, c.loop-i-test.true, c.node_count-n.ensures.upper_bound));
    }

pub loop-i-preserved : goal.loop-i-preserved
loop-i-preserved c = (
  c.step-top.ensures.top_bound,
  short_next (view c.args.s.now).job.nodes c.loop-i.i (node_of c.load_node-x.result) c.load_node-x.ensures c.loop-i.invariant.1
      c.step-top.ensures.rows_le_max_rows,
  marked_next (view c.args.s.now).job.nodes c.loop-i.i (node_of c.load_node-x.result) c.loop-i.marks _ c.load_node-x.ensures (search rules)
      c.loop-i.invariant.2
      c.mark-fresh.ensures.seen_after,
  distinct_next (view c.args.s.now).job.nodes c.loop-i.i (node_of c.load_node-x.result) c.loop-i.marks c.mark-fresh.result c.loop-i.distinct
      c.all_fresh-distinct.result c.load_node-x.ensures c.loop-i.invariant.2 c.mark-fresh.ensures.value c.all_fresh-distinct.ensures c.loop-i.invariant.3,
  c.loop-i.invariant.4 ∙ walks_next
      (view c.args.s.now).job.nodes c.loop-i.i c.node_count-n.result (top_of c.loop-i.free c.loop-i.top)
      (top_of c.step-top.new.free c.step-top.result) c.loop-i-test.true c.step-top.ensures.result_after,
)

pub returns : goal.returns
returns c =
    record {
      result_value = sym (rw c.node_count-n.ensures.value at (c.loop-i.invariant.4 ∙ walks_end (view c.args.s.now).job.nodes c.loop-i.i
          (c.node_count-n.result - c.loop-i.i) (top_of c.loop-i.free c.loop-i.top) (omega (arith, c.loop-i-test.false))));
      rows_fit = short_all (view c.args.s.now).job.nodes c.loop-i.i c.loop-i.invariant.1
          (omega (arith, c.loop-i-test.false, c.node_count-n.ensures.value));
      distinct = λ e g k h. c.loop-i.invariant.3 e g k (omega (arith, c.loop-i-test.false, c.node_count-n.ensures.value));
    }
