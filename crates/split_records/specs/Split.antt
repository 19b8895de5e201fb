-- A split and its runs where they lie in the job bytes, in the terms of the rules.
use Rattle.std.specs.Prelude.{◌≡◌, List, ℕ, ◌+◌, ◌*◌, ◌-◌, ◌≤◌, ◌<◌, length, get_or, Result}
use Rattle.std.proofs.Math.Option.{none}
use Rattle.rules.specs.Job as rule
use Rattle.records.specs.Read.{runs_at}
use Rattle.jobs.specs.Job.{front}
use Rattle.jobs.specs.Refusal.{outcome_by}
use Rattle.jobs.specs.declared.refusal.Refusal.{Refusal}
use Rattle.node_records.specs.Draft.{reading_with}
use Rattle.split_records.specs.declared.Head.{Head}
use Rattle.split_records.specs.declared.Outline.{Outline}
use Rattle.split_records.specs.declared.Records.{Records}

-- the split that an outline and the job bytes give
abbrev pub outline_of : List ℕ → Outline → rule.Split
outline_of b x = record { start = x.start; end = x.end; runs = rule.join_runs (runs_at b x.at x.count) }

-- the runs of an outline are few, lie within the bytes and have no fault
pub record Lies (b : List ℕ) (x : Outline) : Type 0 where
  pub few : x.count ≤ 16
  pub within : x.at + 8 * x.count ≤ length b
  pub sound : rule.read_faults (x.end - x.start) 0 0 (runs_at b x.at x.count) ≡ none

-- no outline
abbrev pub no_outline : Outline
no_outline = record { start = 0; end = 0; count = 0; at = 0 }

-- those of the first n outlines do
abbrev pub AllLie : List ℕ → List Outline → ℕ → Type 0
AllLie b xs n = (k : ℕ) → k < n → Lies b (get_or xs k no_outline)

abbrev pub all_of : List ℕ → Records → rule.Reading
all_of b r = reading_with r.draft (front (outline_of b) r.splits r.split_count)

-- the next split behind those of a draft
abbrev pub cut_on : List ℕ → rule.Reading → Result Outline Refusal → rule.Outcome rule.Reading
cut_on b x r = outcome_by (λ y. rule.goes_on x (rule.new_split (outline_of b y) x.draft)) r

-- what the splits of a draft, of which there are so many, are checked against
pub record Heads (d : rule.Draft) (h : Head) (count : ℕ) : Type 0 where
  pub slots_are : d.slots ≡ h.slots
  pub nodes_are : length d.nodes ≡ h.nodes
  pub free_are : length d.free ≡ h.free
  pub rows_are : rule.plan_rows d ≡ h.rows
  pub splits_are : length d.splits ≡ count
