-- `scheduler::stepping::stepping` meets its contract.
use Rattle.scheduler.specs.Step.{on_next, none_held, inner_reads, step_answers, step_fails, step_goes}
use Rattle.scheduler.specs.Answers.{turn_of}
use Rattle.tables.specs.View.{view}
use mathlib.Core.Path.{sym, ◌∙◌}
use borrow.Author.Rules.{rules}
use Rattle.scheduler.proofs.stepping.stepping.Goals as goal

pub returns-then-output_len-gt0 : goal.returns-then-output_len-gt0
returns-then-output_len-gt0 c =
    record {
      size = search rules;
      s_after = step_answers (view c.loop-s.s) (turn_of c.put_out.result (view c.put_out.new.s)) c.put_out.ensures.s_after ∙ sym
          c.loop-s.invariant.same;
      zeroes = c.put_out.ensures.zeroes;
      s_unchanged = c.put_out.ensures.s_unchanged ∙ c.loop-s.invariant.past;
    }

pub returns-in-Some : goal.returns-in-Some
returns-in-Some c =
    record {
      size = search rules;
      s_after = step_answers (view c.loop-s.s) (turn_of c.in-Some.t (view c.from_reads.new.s))
          ((rw c.in-Some.is at c.from_reads.ensures.s_after) ∙ inner_reads (view c.loop-s.s)
          (none_held (view c.loop-s.s) (rw (← c.output_len.ensures) c.if-output_len-gt0.false))) ∙ sym c.loop-s.invariant.same;
      zeroes = rw c.in-Some.is at c.from_reads.ensures.zeroes_inner;
      s_unchanged = c.from_reads.ensures.s_unchanged ∙ c.loop-s.invariant.past;
    }

pub returns-then-fault : goal.returns-then-fault
returns-then-fault c =
    record {
      size = search rules;
      s_after = c.fail.ensures.s_after ∙ step_fails (view c.loop-s.s) (view c.from_reads.new.s)
          ((rw c.in_default.is at c.from_reads.ensures.s_after) ∙ inner_reads (view c.loop-s.s)
          (none_held (view c.loop-s.s) (rw (← c.output_len.ensures) c.if-output_len-gt0.false))) (sym c.fault.ensures ∙ c.if-fault.true) ∙ sym
          c.loop-s.invariant.same;
      zeroes = c.fail.ensures.zeroes;
      s_unchanged = c.fail.ensures.s_unchanged ∙ c.from_reads.ensures.s_unchanged ∙ c.loop-s.invariant.past;
    }

pub loop-s-smaller : goal.loop-s-smaller
loop-s-smaller c =
    let g = step_goes (view c.loop-s.s) (view c.from_reads.new.s) c.loop-s.invariant.ranged
    ((rw c.in_default.is at c.from_reads.ensures.s_after) ∙ inner_reads (view c.loop-s.s)
    (none_held (view c.loop-s.s) (rw (← c.output_len.ensures) c.if-output_len-gt0.false))) (sym c.fault.ensures ∙ c.if-fault.false) in g.less

pub loop-s-preserved : goal.loop-s-preserved
loop-s-preserved c =
    let g = step_goes (view c.loop-s.s) (view c.from_reads.new.s) c.loop-s.invariant.ranged
    ((rw c.in_default.is at c.from_reads.ensures.s_after) ∙ inner_reads (view c.loop-s.s)
    (none_held (view c.loop-s.s) (rw (← c.output_len.ensures) c.if-output_len-gt0.false))) (sym c.fault.ensures ∙ c.if-fault.false) in on_next
    c.args.s.now c.loop-s.s
    c.from_reads.new.s c.loop-s.invariant g (search rules) c.from_reads.ensures.s_unchanged
