-- `table_job::split_fields::run_count` meets its contract.
use native.Mathlib.Omega.{arith}
use Rattle.table_job.specs.SplitFields.{no_runs, run_number, run_one}
use borrow.Author.Rules.{rules}
use Rattle.table_job.proofs.split_fields.run_count.Goals as goal

pub returns-then-split_count-t : goal.returns-then-split_count-t
returns-then-split_count-t c =
    record { value = no_runs c.args.s.now (search rules) c.args.t (omega (arith, c.split_count.ensures.value)); upper_bound = search rules }

pub returns-then-n-gt16 : goal.returns-then-n-gt16
returns-then-n-gt16 c =
    record {
      value = run_one c.args.s.now (search rules) c.args.t (omega (arith, c.split_count.ensures.value)) _ c.from-n.ensures
          c.if-n-gt16.true;
      upper_bound = search rules;
    }

pub returns-else-n-gt16 : goal.returns-else-n-gt16
returns-else-n-gt16 c =
    record {
      value = run_number c.args.s.now (search rules) c.args.t (omega (arith, c.split_count.ensures.value)) _ c.from-n.ensures
          c.if-n-gt16.false;
      upper_bound = search rules;
    }
