-- `split_records::reader::empty` meets its contract.
use mathlib.Core.Path.{refl}
use Rattle.jobs.specs.Job.{front}
use Rattle.node_records.specs.Draft.{newest_of}
use Rattle.split_records.proofs.reader.empty.Goals as goal

pub returns-clause-result_value : goal.returns-clause-result_value
unfolding front newest_of
returns-clause-result_value c = refl
