-- `call_records::job::job_end` meets its contract: what is behind the records of all bytes is behind those from `at` on.
use Rattle.call_records.specs.Job.{Ahead}
use lib.ListN.{length}
use Prim.Native.Nat.{◌-◌, ◌≤◌}
use Rattle.call_records.proofs.job.job_end.Given as goal

abbrev pub invariant-loop-at : goal.invariant-loop-at
invariant-loop-at l = (l.at ≤ length l.b) × Ahead l.b l.at

abbrev pub decreases-loop-at : goal.decreases-loop-at
decreases-loop-at l = length l.b - l.at
