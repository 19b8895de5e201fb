-- A job by value, in the terms of the rules.
use Rattle.std.specs.Prelude.{List, map, ℕ, take, eqb, if◌then◌else◌}
use Rattle.std.proofs.Math.Option.{Option, none, some}
use Rattle.rules.specs.Job as rule
use Rattle.jobs.specs.declared.Kind.{Kind}
use Rattle.jobs.specs.declared.Kind.TheVariants.{Segment, Concat, Pack}
use Rattle.jobs.specs.declared.Node.{Node}
use Rattle.jobs.specs.declared.Run.{Run}
use Rattle.jobs.specs.declared.Split.{Split}
use Rattle.jobs.specs.declared.Job.{Job}

abbrev pub kind_of : Kind → rule.Kind
kind_of Segment = rule.segment
kind_of Concat = rule.concat
kind_of Pack = rule.pack

-- 255 stands for no parent
abbrev pub parent_of : ℕ → Option ℕ
parent_of p = if eqb p 255 then none else some p

abbrev pub node_of : Node → rule.Node
node_of x =
    record { kind = kind_of x.kind; segment = x.segment; rows = x.rows; width = x.width; parent = parent_of x.parent; at = x.at }

abbrev pub run_of : Run → rule.Run
run_of x = record { start = x.start; size = x.size }

-- the first n of a table
unfoldable pub front : {A B : Type 0} → (A → B) → List A → ℕ → List B
front f xs n = map f (take n xs)

abbrev pub split_of : Split → rule.Split
split_of x = record { start = x.start; end = x.end; runs = front run_of x.runs x.count }

abbrev pub job_of : Job → rule.Job
job_of j = record { slots = j.slots; nodes = front node_of j.nodes j.node_count; splits = front split_of j.splits j.split_count }

-- a refusal's number, or 0 and a value
abbrev pub outcome : {A : Type 0} → ℕ → A → rule.Outcome A
outcome n x = if eqb n 0 then rule.accepted x else rule.refused n
