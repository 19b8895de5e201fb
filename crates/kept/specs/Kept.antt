-- Runs by value, in the terms of the rules.
use Rattle.std.specs.Prelude.{◌≡◌, List, [], ◌∷◌, ◌≤◌, length, Option, Some, None}
use Rattle.rules.specs.Job as rule
use Rattle.jobs.specs.Job.{front, run_of}
use Rattle.jobs.specs.declared.Run.{Run}
use Rattle.kept.specs.declared.Kept.{Kept}

-- the run, if there is one
abbrev pub listed : Option Run → List rule.Run
listed None = []
listed (Some x) = run_of x ∷ []

abbrev pub runs_of : Kept → List rule.Run
runs_of k = front run_of k.runs k.count

-- the counts are within the tables
pub record Sized (k : Kept) : Type 0 where
  pub run_table : length k.runs ≡ 16
  pub run_fit : k.count ≤ 16
