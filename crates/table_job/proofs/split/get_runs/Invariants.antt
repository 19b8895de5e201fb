-- `table_job::split::get_runs` meets its contract.
use mathlib.Core.Path.{◌≡◌}
use lib.ListN.{length, take}
use Rattle.jobs.specs.Job.{front, run_of}
use Rattle.layout.specs.Records.{table}
use Rattle.tables.specs.Decode.{run}
use Rattle.table_job.proofs.split.get_runs.Given as goal

abbrev pub invariant-loop-i : goal.invariant-loop-i
invariant-loop-i l = (length l.runs ≡ 16) × (front run_of l.runs l.i ≡ take l.i (table run 8 16 l.r))
