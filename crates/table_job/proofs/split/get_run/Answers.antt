-- `table_job::split::get_run` meets its contract.
use Rattle.tables.specs.Decode.{run}
use Rattle.table_job.proofs.split.get_run.Goals as goal

pub returns : goal.returns
unfolding run
returns c = rw c.get_words.ensures
