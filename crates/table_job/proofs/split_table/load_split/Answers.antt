-- `table_job::split_table::load_split` meets its contract.
use Rattle.jobs.specs.Job.{front}
use Rattle.tables.specs.Job.{split_past}
use mathlib.Core.Path.{◌∙◌}
use native.Mathlib.Omega.{arith}
use borrow.Author.Rules.{rules}
use Rattle.table_job.proofs.split_table.load_split.Goals as goal

pub returns-then-split_count-i : goal.returns-then-split_count-i
unfolding front
returns-then-split_count-i c =
    record { result_value = split_past c.args.s.now (search rules) c.args.i (omega (arith, c.split_count.ensures.value)); count_bound = search rules }

pub returns : goal.returns
returns c =
    record {
      result_value = c.get_split.ensures.result_value ∙ c.split_record.ensures;
      count_bound = c.get_split.ensures.count_bound;
    }
