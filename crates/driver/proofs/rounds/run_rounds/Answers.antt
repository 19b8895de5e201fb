-- `driver::rounds::run_rounds` meets its contract.
use Rattle.std.proofs.Common.{refl}
use Rattle.driver.specs.Run.{on_then, on_next, over_stops, full_stops, stage_goes, stage_fails, source_stops, source_goes, source_fails, opens, turned, unturned}
use Rattle.driver.specs.Able.{able, ready_able}
use Rattle.table_pipes.specs.Stage.{stage_of}
use Rattle.operator.specs.Answer.{blocked_of, ready_of}
use native.Mathlib.Omega.{arith}
use mathlib.Core.Path.{sym, ap, ◌∙◌}
use borrow.Author.Rules.{rules}
use Rattle.tables.specs.View.{view}
use Rattle.driver.proofs.rounds.run_rounds.Goals as goal

pub stage_turn-requires : goal.stage_turn-requires
stage_turn-requires c =
    let q = opens c.args.p.at (stage_of c.load_stage-x.result) (view c.loop-x.s) c.is_over.result c.any_full.result c.load_stage-x.ensures c.is_over.ensures
    c.if-is_over.false c.any_full.ensures c.if-any_full.false in
    record {
      able = able c.args.p.at (view c.loop-x.s) c.loop-x.invariant.runs q.full;
      x_value = c.load_stage-x.ensures;
    }

pub loop-x-smaller : goal.loop-x-smaller
loop-x-smaller c =
    let q = opens c.args.p.at (stage_of c.load_stage-x.result) (view c.loop-x.s) c.is_over.result c.any_full.result c.load_stage-x.ensures c.is_over.ensures
    c.if-is_over.false c.any_full.ensures c.if-any_full.false in
    let t = turned (stage_of c.load_stage-x.result) c.has_turn.result c.has_turn.ensures (rw c.if-not-has_turn.false refl) in
    let g = stage_goes c.args.p.at (stage_of c.load_stage-x.result) (view c.loop-x.s) (view c.stage_turn.new.s) c.loop-x.invariant.runs q t c.stage_turn.ensures.0
    (sym c.fault.ensures ∙ c.if-fault.false) in
    g.less

pub loop-x-preserved : goal.loop-x-preserved
loop-x-preserved c =
    let q = opens c.args.p.at (stage_of c.load_stage-x.result) (view c.loop-x.s) c.is_over.result c.any_full.result c.load_stage-x.ensures c.is_over.ensures
    c.if-is_over.false c.any_full.ensures c.if-any_full.false in
    let t = turned (stage_of c.load_stage-x.result) c.has_turn.result c.has_turn.ensures (rw c.if-not-has_turn.false refl) in
    let g = stage_goes c.args.p.at (stage_of c.load_stage-x.result) (view c.loop-x.s) (view c.stage_turn.new.s) c.loop-x.invariant.runs q t c.stage_turn.ensures.0
    (sym c.fault.ensures ∙ c.if-fault.false) in
    on_next c.args.p.at c.run.s c.loop-x.s c.stage_turn.new.s c.loop-x.invariant g (search rules) c.stage_turn.ensures.1

pub compute-requires : goal.compute-requires
compute-requires c =
    let q = opens c.args.p.at (stage_of c.load_stage-x.result) (view c.loop-x.s) c.is_over.result c.any_full.result c.load_stage-x.ensures c.is_over.ensures
    c.if-is_over.false c.any_full.ensures c.if-any_full.false in record {
      able = ready_able c.args.p.at c.load_stage-x.result.more (view c.loop-x.s) (view c.source_ready.new.s)
          (able c.args.p.at (view c.loop-x.s) c.loop-x.invariant.runs q.full)
          (sym c.source_ready.ensures.result_value ∙ (ap ready_of c.in-Ready.is)) c.source_ready.ensures.becomes.0;
    }

pub run-smaller : goal.run-smaller
run-smaller c =
    let q = opens c.args.p.at (stage_of c.load_stage-x.result) (view c.loop-x.s) c.is_over.result c.any_full.result c.load_stage-x.ensures c.is_over.ensures
    c.if-is_over.false c.any_full.ensures c.if-any_full.false in
    let t = unturned (stage_of c.load_stage-x.result) c.has_turn.result c.has_turn.ensures (rw c.if-not-has_turn.true refl) in
    let g = source_goes c.args.p.at (stage_of c.load_stage-x.result) (view c.loop-x.s) (view c.source_ready.new.s) (view c.compute.new.s)
    (ready_of c.source_ready.result) c.loop-x.invariant.runs q t c.source_ready.ensures.result_value
    c.source_ready.ensures.becomes.0 (ap ready_of c.in-Ready.is)
    c.compute.ensures.0 (sym c.fault-in-run.ensures ∙ c.if-fault-2.false) in
    omega (arith, g.less, c.loop-x.invariant.most)

pub run-preserved : goal.run-preserved
run-preserved c =
    let q = opens c.args.p.at (stage_of c.load_stage-x.result) (view c.loop-x.s) c.is_over.result c.any_full.result c.load_stage-x.ensures c.is_over.ensures
    c.if-is_over.false c.any_full.ensures c.if-any_full.false in
    let t = unturned (stage_of c.load_stage-x.result) c.has_turn.result c.has_turn.ensures (rw c.if-not-has_turn.true refl) in
    let g = source_goes c.args.p.at (stage_of c.load_stage-x.result) (view c.loop-x.s) (view c.source_ready.new.s) (view c.compute.new.s)
    (ready_of c.source_ready.result) c.loop-x.invariant.runs q t c.source_ready.ensures.result_value
    c.source_ready.ensures.becomes.0 (ap ready_of c.in-Ready.is)
    c.compute.ensures.0 (sym c.fault-in-run.ensures ∙ c.if-fault-2.false) in
    on_next c.args.p.at c.args.s.now c.loop-x.s c.compute.new.s (on_then c.args.p.at c.args.s.now c.run.s c.loop-x.s c.run.invariant c.loop-x.invariant) g
    (search rules)
    (c.compute.ensures.1 ∙ c.source_ready.ensures.becomes.1)

pub returns-then-is_over : goal.returns-then-is_over
returns-then-is_over c =
    let o = on_then c.args.p.at c.args.s.now c.run.s c.loop-x.s c.run.invariant c.loop-x.invariant in record {
      size = search rules;
      s_value = o.same ∙ over_stops c.args.p.at (stage_of c.load_stage-x.result) (view c.loop-x.s) (view c.close_outlets.new.s) c.load_stage-x.ensures
          (sym c.is_over.ensures ∙ c.if-is_over.true) c.close_outlets.ensures.0;
      s_unchanged = c.close_outlets.ensures.1 ∙ o.past;
    }

pub returns-then-any_full : goal.returns-then-any_full
returns-then-any_full c =
    let o = on_then c.args.p.at c.args.s.now c.run.s c.loop-x.s c.run.invariant c.loop-x.invariant in record {
      size = search rules;
      s_value = o.same ∙ full_stops c.args.p.at (stage_of c.load_stage-x.result) (view c.loop-x.s) c.load_stage-x.ensures
          (sym c.is_over.ensures ∙ c.if-is_over.false) (sym c.any_full.ensures ∙ c.if-any_full.true);
      s_unchanged = o.past;
    }

pub returns-in-Blocked : goal.returns-in-Blocked
returns-in-Blocked c =
    let o = on_then c.args.p.at c.args.s.now c.run.s c.loop-x.s c.run.invariant c.loop-x.invariant in
    let q = opens c.args.p.at (stage_of c.load_stage-x.result) (view c.loop-x.s) c.is_over.result c.any_full.result c.load_stage-x.ensures c.is_over.ensures
    c.if-is_over.false c.any_full.ensures c.if-any_full.false in
    let t = unturned (stage_of c.load_stage-x.result) c.has_turn.result c.has_turn.ensures (rw c.if-not-has_turn.true refl) in record {
      size = search rules;
      s_value = o.same ∙ source_stops c.args.p.at (stage_of c.load_stage-x.result) (view c.loop-x.s) (view c.source_ready.new.s)
          (ready_of c.source_ready.result) (blocked_of c.in-Blocked.b) q t c.source_ready.ensures.result_value
          c.source_ready.ensures.becomes.0 (ap ready_of c.in-Blocked.is);
      s_unchanged = c.source_ready.ensures.becomes.1 ∙ o.past;
    }

pub returns-then-fault : goal.returns-then-fault
returns-then-fault c =
    let o = on_then c.args.p.at c.args.s.now c.run.s c.loop-x.s c.run.invariant c.loop-x.invariant in
    let q = opens c.args.p.at (stage_of c.load_stage-x.result) (view c.loop-x.s) c.is_over.result c.any_full.result c.load_stage-x.ensures c.is_over.ensures
    c.if-is_over.false c.any_full.ensures c.if-any_full.false in
    let t = turned (stage_of c.load_stage-x.result) c.has_turn.result c.has_turn.ensures (rw c.if-not-has_turn.false refl) in record {
      size = search rules;
      s_value = o.same ∙ stage_fails c.args.p.at (stage_of c.load_stage-x.result) (view c.loop-x.s) (view c.stage_turn.new.s) q t c.stage_turn.ensures.0
          (sym c.fault.ensures ∙ c.if-fault.true);
      s_unchanged = c.stage_turn.ensures.1 ∙ o.past;
    }

pub returns-then-fault-2 : goal.returns-then-fault-2
returns-then-fault-2 c =
    let o = on_then c.args.p.at c.args.s.now c.run.s c.loop-x.s c.run.invariant c.loop-x.invariant in
    let q = opens c.args.p.at (stage_of c.load_stage-x.result) (view c.loop-x.s) c.is_over.result c.any_full.result c.load_stage-x.ensures c.is_over.ensures
    c.if-is_over.false c.any_full.ensures c.if-any_full.false in
    let t = unturned (stage_of c.load_stage-x.result) c.has_turn.result c.has_turn.ensures (rw c.if-not-has_turn.true refl) in record {
      size = search rules;
      s_value = o.same ∙ source_fails c.args.p.at (stage_of c.load_stage-x.result) (view c.loop-x.s) (view c.source_ready.new.s)
          (view c.compute.new.s) (ready_of c.source_ready.result) q t c.source_ready.ensures.result_value
          c.source_ready.ensures.becomes.0 (ap ready_of c.in-Ready.is) c.compute.ensures.0 (sym c.fault-in-run.ensures ∙ c.if-fault-2.true);
      s_unchanged = c.compute.ensures.1 ∙ c.source_ready.ensures.becomes.1 ∙ o.past;
    }
