-- What each task does: what is said, and what the session comes to.
use Rattle.std.specs.Prelude.{Bool, true, false, List, [], ℕ, length, take, eqb, if◌then◌else◌, Some, None, Ok, Err}
use Rattle.std.specs.Prelude as code
use Rattle.std.proofs.Math.Option.{Option, none, some}
use Rattle.rules.specs.Job.{Outcome, refused, refused_by, accepted}
use Rattle.rules.specs.Machine.{Machine}
use Rattle.rules.specs.Scan.{«open»}
use Rattle.rules.specs.Scan as rules
use Rattle.rules.specs.Session as rule
use Rattle.lines.specs.Lines.{opened_text}
use Rattle.call_records.specs.declared.calls.Call.{Call}
use Rattle.call_records.specs.declared.calls.Call.TheVariants.{Step, Deliver}
use Rattle.call_records.specs.Calls.{call_of}
use Rattle.feeding.specs.declared.Coming.{Coming}
use Rattle.feeding.specs.declared.Phase.{Phase}
use Rattle.feeding.specs.declared.Phase.TheVariants as phase
use Rattle.feeding.specs.declared.Task.{Task}
use Rattle.feeding.specs.declared.Task.TheVariants as task
use Rattle.feeding.specs.Tasks.{task_of}
use Rattle.feeding.specs.Verdict.{numbered, verdict_of}
use Rattle.turn.specs.Told.{ToldVerdict as Verdict}
use Rattle.jobs.specs.Refusal as jobs
use Rattle.jobs.specs.Refusal.{number_of}
use Rattle.jobs.specs.declared.refusal.Refusal.TheVariants.{PastLimit}

-- a turn: what it says, the phase and the machine after it, how many bytes it used, and whether it waits for more; by which number it refuses a
-- call, and whether it neither answers one nor opens a job
pub record Turned : Type 0 where
  pub text : List ℕ
  pub phase : Phase
  pub machine : Machine
  pub used : ℕ
  pub waits : Bool
  pub refuses : Option ℕ
  pub stays : Bool

-- A fault of the bytes that are lent, by its number, whatever the machine that they say; 1, too few of them, is an opening's too
abbrev pub is_short : Option ℕ → Bool
is_short none = false
is_short (some n) = eqb n 1

abbrev pub open_in : Option ℕ → List ℕ → Outcome Machine
open_in fault job = if is_short fault then refused 1 else «open» job

-- a call on such bytes
abbrev pub call_in : Option ℕ → rule.Call → Machine → List ℕ × Machine
call_in none c m = rule.answer c m
call_in (some n) c m = (rule.ended (rule.no_line n), m)

-- "a call mark that is unknown or cut short (printed as `no 2`)"
abbrev pub answer_in : Option ℕ → code.Option Call → Machine → List ℕ × Machine
answer_in fault (Some c) m = call_in fault (call_of c) m
answer_in fault None m = (rule.ended (rule.no_line 2), m)

-- the number by which an answer refuses
abbrev pub refusal_of : rules.Answer rules.Turn → Option ℕ
refusal_of (rules.says t m) = none
refusal_of (rules.refuses n m) = some n

-- the number by which a call is refused
abbrev pub number_in : Option ℕ → rules.Answer rules.Turn → Option ℕ
number_in none a = refusal_of a
number_in (some n) a = some n

abbrev pub refusal_in : Option ℕ → code.Option Call → Machine → Option ℕ
refusal_in fault (Some Step) m = number_in fault (rules.step m)
refusal_in fault (Some (Deliver r n)) m = number_in fault (rules.deliver r n m)
refusal_in fault None m = some 2

-- "ends the session"
abbrev pub after : code.Option Call → Phase
after (Some c) = phase.Calls
after None = phase.Over

abbrev pub is_refused : Outcome Machine → Bool
is_refused (refused_by r) = true
is_refused (accepted m) = false

-- the machine that an opening leaves
abbrev pub left_by : Outcome Machine → Machine → Machine
left_by (refused_by r) m = m
left_by (accepted k) m = k

abbrev pub told_two : Verdict → Bool
told_two (Ok u) = false
told_two (Err t) = eqb t.number 2

-- what a split with too many runs comes to, if they all come: `all` is the verdict of the job that the split cuts short, `front` that of the
-- records before it
abbrev pub long_told : Verdict → Verdict → Verdict
long_told all front = if told_two all then if told_two front then all else Err (numbered 3) else all

-- the same of what openings answer
abbrev pub is_two : jobs.Verdict → Bool
is_two (Ok u) = false
is_two (Err r) = eqb (number_of r) 2

abbrev pub long_verdict : jobs.Verdict → jobs.Verdict → jobs.Verdict
long_verdict all front = if is_two all then if is_two front then all else Err PastLimit else all

-- "A refused opening … ends the session"
abbrev pub opened : Outcome Machine → ℕ → Machine → Turned
opened (refused_by r) n m =
    record { text = rule.ended (rule.refusal_line r); phase = phase.Over; machine = m; used = n; waits = false; refuses = none; stays = true }
opened (accepted k) n m =
    record { text = rule.ended rule.open_line; phase = phase.Calls; machine = k; used = n; waits = false; refuses = none; stays = false }

abbrev pub skips : Outcome Machine → Outcome Machine → ℕ → ℕ → Machine → Turned
skips all front at size m = record {
  text = [];
  phase = phase.Skip size (long_told (verdict_of all) (verdict_of front)) (verdict_of all);
  machine = left_by all m;
  used = at;
  waits = false;
  refuses = none;
  stays = is_refused all;
}

abbrev pub answered : code.Option Call → ℕ → List ℕ × Machine → Option ℕ → Turned
answered c n a r = record { text = a.0; phase = after c; machine = a.1; used = n; waits = false; refuses = r; stays = false }

-- nothing is said, or a verdict
abbrev pub quiet : List ℕ → Phase → Machine → ℕ → Bool → Turned
quiet text p m n waits = record { text = text; phase = p; machine = m; used = n; waits = waits; refuses = none; stays = true }

unfoldable pub does : Option ℕ → Phase → Machine → List ℕ → Task → Turned
does fault p m xs task.Wait = quiet [] p m 0 true
does fault p m xs (task.Open n) = opened (open_in fault (take n xs)) n m
does fault p m xs (task.Skip at size) = skips (open_in fault xs) («open» (take at xs)) at size m
does fault p m xs (task.Pass q) = quiet [] q m (length xs) true
does fault p m xs (task.Tell v) = quiet (opened_text v) phase.Over m (length xs) false
does fault p m xs (task.Answer c n) = answered c n (answer_in fault c m) (refusal_in fault c m)
does fault p m xs task.End = quiet [] phase.Over m 0 false

-- a turn of a session on the bytes that are there
abbrev pub turned : Option ℕ → Coming → Phase → Machine → List ℕ → Turned
turned fault c p m xs = does fault p m xs (task_of p c xs)
