-- `table_job::split::get_split` meets its contract.
use Rattle.jobs.specs.Job.{front}
use Rattle.layout.specs.Cut.{cut}
use Rattle.table_job.specs.Split.{split_in, split_out}
use native.Mathlib.Omega.{arith}
use borrow.Author.Rules.{rules}
use Rattle.table_job.proofs.split.get_split.Goals as goal

pub returns-then-n-gt16 : goal.returns-then-n-gt16
unfolding front cut
returns-then-n-gt16 c =
    record { result_value = split_out c.args.r.now c.get_words.new.to (omega (arith, c.from-n.ensures)) c.get_words.ensures; count_bound = search rules }

pub returns : goal.returns
unfolding front cut
returns c =
    record {
      result_value = rw c.from-n.ensures (split_in c.args.r.now c.get_words.new.to _ (omega (arith, c.from-n.ensures)) c.get_words.ensures
          (rw c.from-n.ensures at c.get_runs.ensures));
      count_bound = search rules;
    }
