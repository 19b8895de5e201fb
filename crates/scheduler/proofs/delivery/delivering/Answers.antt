-- `scheduler::delivery::delivering` meets its contract.
use borrow.Author.Tests.{ne_eqb, eq-eqb}
use Rattle.scheduler.specs.Calls.{fails_zero}
use Rattle.scheduler.specs.Delivery.{never_made, was_delivered, wrong_rows, right_rows}
use Rattle.scheduler.specs.Answers.{delivered_of}
use Rattle.table_queues.specs.Read.{read_of}
use borrow.Author.Rules.{rules}
use native.Mathlib.Omega.{arith}
use mathlib.Core.Logic.{inl}
use mathlib.Core.Path.{refl, ◌∙◌}
use Rattle.tables.specs.View.{view}
use Rattle.scheduler.proofs.delivery.delivering.Goals as goal

pub returns-then-read_count-i : goal.returns-then-read_count-i
returns-then-read_count-i c =
    record {
      size = search rules;
      s_after = never_made c.args.read c.args.rows (view c.args.s.now) (rw (← c.read_count.ensures) c.if-read_count-i.true);
      delivering = inl (omega arith, omega arith, refl);
      s_unchanged = refl;
    }

pub returns-then-x : goal.returns-then-x
returns-then-x c =
    record {
      size = search rules;
      s_after = was_delivered c.args.read c.args.rows (read_of c.load_read-x.result) (view c.args.s.now)
          (rw (← c.read_count.ensures) c.if-read_count-i.false) c.load_read-x.ensures c.if-x.true;
      delivering = inl (omega arith, omega arith, refl);
      s_unchanged = refl;
    }

pub returns-then-rows_of-rows : goal.returns-then-rows_of-rows
returns-then-rows_of-rows c =
    record {
      size = search rules;
      s_after = wrong_rows c.args.read c.args.rows c.rows_of.result (read_of c.load_read-x.result) (view c.args.s.now)
          (rw (← c.read_count.ensures) c.if-read_count-i.false) c.load_read-x.ensures c.if-x.false c.rows_of.ensures
          (ne_eqb _ _ c.if-rows_of-rows.true);
      delivering = inl (omega arith, omega arith, refl);
      s_unchanged = refl;
    }

pub returns : goal.returns
returns c =
    record {
      size = search rules;
      s_after = right_rows c.args.read c.args.rows c.rows_of.result (read_of c.load_read-x.result)
          (delivered_of c.faulted.result (view c.faulted.new.s)) (view c.args.s.now) (view c.take_in.new.s)
          (rw (← c.read_count.ensures) c.if-read_count-i.false) c.load_read-x.ensures c.if-x.false c.rows_of.ensures
          (eq-eqb _ _ c.if-rows_of-rows.false) c.take_in.ensures.0 c.faulted.ensures.s_after;
      delivering = fails_zero c.args.s.now c.faulted.result c.faulted.new.s c.faulted.ensures.fails;
      s_unchanged = c.faulted.ensures.s_unchanged ∙ c.take_in.ensures.1;
    }
