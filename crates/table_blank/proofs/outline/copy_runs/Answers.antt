-- `table_blank::outline::copy_runs` meets its contract: k runs are written, y is in hand, and those from i on are to come.
use mathlib.Core.Path.{sym, ◌∙◌}
use native.Mathlib.Omega.{arith}
use lib.ListN.{take}
use borrow.Author.Tests.{eq-eqb, ne_eqb}
use Rattle.jobs.specs.Job.{run_of}
use Rattle.layout.specs.Records.{table}
use Rattle.tables.specs.Decode.{run}
use Rattle.table_blank.specs.Outline.{hand_none, hand_first, hand_fits, hand_longer, hand_written, hand_last}
use Rattle.table_blank.proofs.outline.copy_runs.Goals as goal
use Rattle.table_blank.proofs.outline.copy_runs.Goals.{then-end_of-from, else-end_of-from}

pub returns-then-x-eq0 : goal.returns-then-x-eq0
returns-then-x-eq0 c =
    record { upper_bound = omega arith; r_after = hand_none c.args.b.now c.args.x c.if-x-eq0.true }

pub loop-i-init : goal.loop-i-init
loop-i-init c = (
  omega arith,
  hand_first c.args.b.now c.args.x c.requires.lies c.if-x-eq0.false
      (run_of c.run_at-y.result) c.run_at-y.ensures,
)

pub overflow_add-y : goal.overflow_add-y
overflow_add-y c =
    omega (
      arith,
      hand_fits c.args.b.now c.args.x c.loop-i.i (take c.loop-i.k (table run 8 16 c.loop-i.r)) (run_of c.loop-i.y) (run_of c.run_at-z.result)
          c.loop-i-test.true c.run_at-z.ensures
          c.loop-i.invariant.1 (eq-eqb _ _ (sym c.end_of.ensures ∙ c.if-end_of-from.true ∙ c.from.ensures)),
    )

pub loop-i-preserved : goal.loop-i-preserved
loop-i-preserved c = elim c.if-end_of-from.branch [
  | then-end_of-from w ↦ rw (w.k-is, w.r-is, w.y-is) (
    omega (arith, c.loop-i.invariant.0),
    hand_longer c.args.b.now c.args.x c.loop-i.i (take c.loop-i.k (table run 8 16 c.loop-i.r)) (run_of c.loop-i.y) (run_of c.run_at-z.result)
        c.loop-i-test.true c.run_at-z.ensures c.loop-i.invariant.1 (eq-eqb _ _ (sym c.end_of.ensures ∙ w.if-end_of-from.true ∙ c.from.ensures)),
  )
  | else-end_of-from w ↦ rw (w.k-is, w.r-is, w.y-is, w.put_run.ensures) (
    omega (arith, c.loop-i.invariant.0),
    hand_written c.args.b.now c.args.x c.loop-i.i (take c.loop-i.k (table run 8 16 c.loop-i.r)) (run_of c.loop-i.y) (run_of c.run_at-z.result)
        c.loop-i-test.true c.run_at-z.ensures c.loop-i.invariant.1
        (ne_eqb _ _ (λ e. w.if-end_of-from.false (c.end_of.ensures ∙ e ∙ sym c.from.ensures))),
  )
]

pub returns : goal.returns
returns c =
    record {
      upper_bound = omega (arith, c.loop-i.invariant.0, c.requires.lies.few);
      r_after = c.put_run-2.ensures ∙ hand_last c.args.b.now c.args.x c.loop-i.i (take c.loop-i.k (table run 8 16 c.loop-i.r)) (run_of c.loop-i.y)
          c.loop-i-test.false c.loop-i.invariant.1;
    }
