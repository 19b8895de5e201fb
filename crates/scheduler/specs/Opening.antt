-- Opening as a whole: the start of the job that was read, or its refusal, and by which numbers it is refused.
use Rattle.std.specs.Prelude.{◌≡◌, List, map, ℕ, Err}
use Rattle.std.proofs.Common.{sym, arith}
use Rattle.std.proofs.Math.Option.{Option, none, some}
use Rattle.rules.specs.Table.{up_from}
use Rattle.rules.specs.Job.{Job, refused_by, accepted, parse}
use Rattle.rules.specs.Machine.{Machine, shared_first, with_unbuilt, blank, start}
use Rattle.rules.specs.Scan as rule
use Rattle.laws.specs.Numbered as known
use Rattle.laws.specs.Numbered.{parse_numbered}
use Rattle.jobs.specs.Refusal.{refusal_of, number_of, index_of}
use Rattle.jobs.specs.declared.refusal.Refusal.{Refusal}
use Rattle.scheduler.specs.Answers.{Numbered, Numbers}

-- the sources of shared segments are still to be made
abbrev pub marked : Machine → Machine
marked m = with_unbuilt (map (shared_first m.job) (up_from 0 24)) m

pub opens_start : (j : Job) (job : List ℕ) (m n : Machine) → accepted j ≡ parse job → m ≡ blank j → n ≡ marked m
    → rule.«open» job ≡ accepted n
unfolding rule.«open» start blank
opens_start j job m n e b w = rw (w, b, ← e, rule.«open»)

pub opens_not : (job : List ℕ) (q : Refusal) → refused_by (refusal_of q) ≡ parse job → rule.«open» job ≡ refused_by (refusal_of q)
unfolding rule.«open»
opens_not job q e = rw (← e, rule.«open»)

-- the rule's numbers are the code's
pub opens_numbers : (job : List ℕ) (q : Refusal) → refused_by (refusal_of q) ≡ parse job → Numbers (Err q)
opens_numbers job q e = by (index_of q) (number_of q) (parse_numbered job (refusal_of q) (sym e))
  where
    by : (o : Option ℕ) (n : ℕ) → known.Numbered (record { number = n; index = o }) → Numbered o n
    by none n v = (omega (arith, v.0), v.1)
    by (some i) n v = v
