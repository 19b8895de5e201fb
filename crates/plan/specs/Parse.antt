-- What the reader's answer says, in the terms of the rules.
use Rattle.std.specs.Prelude.{◌≡◌, List, ℕ, ◌≤◌, length, take, eqb, if◌then◌else◌, Ok, Err}
use Rattle.rules.specs.Job as rule
use Rattle.jobs.specs.Job.{front, node_of}
use Rattle.jobs.specs.Refusal.{Verdict}
use Rattle.jobs.specs.declared.refusal.Refusal.TheVariants.{Malformed, PastLimit, NotATree}
use Rattle.split_records.specs.Split.{outline_of, AllLie}
use Rattle.plan.specs.declared.Parsed.{Parsed}

-- the job, whose runs are read off the job bytes
abbrev pub job_from : List ℕ → Parsed → rule.Job
job_from b r =
    record { slots = r.slots; nodes = front node_of r.nodes r.node_count; splits = front (outline_of b) r.splits r.split_count }

-- the numbers of its nodes in job order
abbrev pub labels_of : Parsed → List ℕ
labels_of r = take r.node_count r.labels

-- the counts are within the tables, and the runs lie within the bytes
pub record Fits (b : List ℕ) (r : Parsed) : Type 0 where
  pub label_table : length r.labels ≡ 24
  pub nodes_fit : r.node_count ≤ 24
  pub splits_fit : r.split_count ≤ 16
  pub lie : AllLie b r.splits r.split_count

-- what the end of the records finds
abbrev pub end_fault : ℕ → ℕ → ℕ → Verdict
end_fault slots nodes free =
    if eqb slots 0 then Err Malformed else if eqb nodes 0 then Err PastLimit else if eqb free 1 then Ok tt else Err NotATree
