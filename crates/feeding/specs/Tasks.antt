-- What is to be done with the bytes that are there.
use Rattle.std.specs.Prelude.{Bool, true, false, ◌&&◌, List, [], ◌∷◌, ℕ, ◌+◌, ◌*◌, ◌-◌, length, drop, get_or, leb, ltb, if◌then◌else◌, Some, None}
use Rattle.std.proofs.Math.Option.{Option, none, some}
use Rattle.rules.specs.Job.{is_mark, SP, word}
use Rattle.rules.specs.Session as rule
use Rattle.records.specs.Read.{number_of}
use Rattle.call_records.specs.JobEnd.{job_rest, records_end}
use Rattle.call_records.specs.Calls.{wanted_at}
use Rattle.call_records.specs.declared.calls.Call.TheVariants.{Step, Deliver}
use Rattle.turn.specs.Told.{ToldVerdict as Verdict}
use Rattle.feeding.specs.declared.Coming.{Coming}
use Rattle.feeding.specs.declared.Coming.TheVariants.{More, Full, Ended}
use Rattle.feeding.specs.declared.Phase.{Phase}
use Rattle.feeding.specs.declared.Phase.TheVariants as phase
use Rattle.feeding.specs.declared.Task.{Task}
use Rattle.feeding.specs.declared.Task.TheVariants as task

-- A job

-- "The job ends at the first of these two marks": one of them is there
abbrev pub ends_in : List ℕ → Bool
ends_in xs = rule.at_call (job_rest xs) && ltb (records_end xs) (length xs)

-- a job that there is no room for is refused by its first records, or stops at a split with too many runs: at what has more bytes than a split
-- may have
unfoldable pub long_task : List ℕ → ℕ → Task
long_task xs at =
    if ltb (length xs - at) 142 then task.Open (length xs)
    else if is_mark (get_or xs at 0) (get_or xs (at + 1) 0) SP then task.Skip at (14 + 8 * number_of (word (drop (at + 10) xs)))
    else task.Open (length xs)

-- "or with the input"
abbrev pub goes_on : Coming → List ℕ → Task
goes_on More xs = task.Wait
goes_on Full xs = long_task xs (records_end xs)
goes_on Ended xs = task.Open (length xs)

unfoldable pub job_task : Coming → List ℕ → Task
job_task c xs = if ends_in xs then task.Open (records_end xs) else goes_on c xs

-- A split that is skipped

abbrev pub skip_on : Coming → ℕ → Verdict → Verdict → Task
skip_on More n b a = task.Pass (phase.Skip n b a)
skip_on Full n b a = task.Pass (phase.Skip n b a)
skip_on Ended n b a = task.Tell a

unfoldable pub skip_task : ℕ → Verdict → Verdict → Coming → List ℕ → Task
skip_task n b a c xs = if leb n (length xs) then task.Tell b else skip_on c (n - length xs) b a

-- Calls

-- the call at the front, and where it ends; a bad one takes all bytes
abbrev pub called : List ℕ → Option (rule.Call × List ℕ) → Task
called xs none = task.Answer None (length xs)
called xs (some (rule.ST, rest)) = task.Answer (Some Step) (length xs - length rest)
called xs (some (rule.DL r n, rest)) = task.Answer (Some (Deliver r n)) (length xs - length rest)

abbrev pub may_come : Coming → Bool
may_come More = true
may_come Full = true
may_come Ended = false

unfoldable pub call_task : Coming → List ℕ → Task
call_task c [] = if may_come c then task.Wait else task.End
call_task c (x ∷ xs) = if may_come c && ltb (length (x ∷ xs)) (wanted_at (x ∷ xs)) then task.Wait else called (x ∷ xs) (rule.next_call (x ∷ xs))

-- All phases

abbrev pub task_of : Phase → Coming → List ℕ → Task
task_of phase.Job c xs = job_task c xs
task_of (phase.Skip n b a) c xs = skip_task n b a c xs
task_of phase.Calls c xs = call_task c xs
task_of phase.Over c xs = task.End
