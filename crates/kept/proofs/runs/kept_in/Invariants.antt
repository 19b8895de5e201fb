-- `kept::runs::kept_in` meets its contract. The invariant: the runs so far and those that the entries from here on give are all runs.
use Rattle.std.proofs.Common.{◌≡◌, ◌+◌, ◌≤◌, ◌++◌, map, drop}
use mathlib.Core.List.{flat_map}
use Rattle.rules.specs.Plan as plan
use Rattle.jobs.specs.Job.{run_of}
use Rattle.kept.specs.Kept.{runs_of, Sized}
use Rattle.kept.proofs.runs.kept_in.Given as goal

abbrev pub invariant-loop-r : goal.invariant-loop-r
invariant-loop-r l =
    record {
      sized : Sized l.k;
      few : l.k.count ≤ l.r-index;
      is : flat_map (plan.cut l.fn.p.start l.fn.lo (l.fn.lo + l.fn.rows)) (map run_of l.runs)
          ≡ runs_of l.k ++ flat_map (plan.cut l.fn.p.start l.fn.lo (l.fn.lo + l.fn.rows)) (map run_of (drop l.r-index l.runs));
    }
