-- `check_job::split_ranges::runs_fit` meets its contract.
use Rattle.check_job.specs.Splits.{end_before}
use Rattle.rules.specs.Job.{runs_fault}
use Rattle.layout.specs.Cut.{cut}
use Rattle.layout.specs.Records.{table}
use Rattle.tables.specs.Decode.{run}
use lib.ListN.{take, drop}
use mathlib.Core.Bool.{not}
use mathlib.Core.Option.{none}
use mathlib.Core.Path.{◌≡◌}
use Rattle.check_job.proofs.split_ranges.runs_fit.Given as goal

abbrev pub invariant-loop-k : goal.invariant-loop-k
invariant-loop-k l =
    (not (runs_fault l.size none (take l.n (table run 8 16 (cut 9 137 l.r))))
    ≡ not (runs_fault l.size (end_before l.from) (drop l.k (take l.n (table run 8 16 (cut 9 137 l.r))))))
