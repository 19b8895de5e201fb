-- What a task names lies within the bytes; a turn uses no more of them, and waits only where more can come.
use Rattle.std.specs.Prelude.{◌≡◌, true, false, ◌&&◌, List, [], ◌∷◌, ℕ, ◌+◌, ◌-◌, ◌≤◌, length, take, get_or, leb, ltb}
use Rattle.std.proofs.Math.Path.{refl}
use Rattle.std.proofs.Math.Option.{Option, none, some}
use Rattle.std.proofs.Common.{arith, le-ltb}
use Rattle.laws.specs.Table.{by_bool, clash}
use Rattle.rules.specs.Job.{Outcome, refused_by, accepted, is_mark, SP}
use Rattle.rules.specs.Machine.{Machine}
use Rattle.rules.specs.Session as rule
use Rattle.call_records.specs.JobEnd.{records_end}
use Rattle.call_records.specs.Calls.{wanted_at}
use Rattle.turn.specs.Told.{ToldVerdict as Verdict}
use Rattle.feeding.specs.declared.Coming.{Coming}
use Rattle.feeding.specs.declared.Coming.TheVariants.{More, Full, Ended}
use Rattle.feeding.specs.declared.Phase.{Phase}
use Rattle.feeding.specs.declared.Phase.TheVariants as phase
use Rattle.feeding.specs.declared.Task.{Task}
use Rattle.feeding.specs.declared.Task.TheVariants as task
use Rattle.feeding.specs.Tasks.{ends_in, long_task, goes_on, job_task, skip_on, skip_task, may_come, called, call_task, task_of}
use Rattle.feeding.specs.Turned.{open_in, opened, does, turned}

abbrev pub Within : Task → ℕ → Type 0
Within task.Wait n = Unit {0}
Within (task.Open k) n = k ≤ n
Within (task.Skip at size) n = at ≤ n
Within (task.Pass p) n = Unit {0}
Within (task.Tell v) n = Unit {0}
Within (task.Answer c k) n = k ≤ n
Within task.End n = Unit {0}

-- a job

long_within : (xs : List ℕ) (at : ℕ) → at ≤ length xs → Within (long_task xs at) (length xs)
unfolding long_task
long_within xs at h =
    by_bool (ltb (length xs - at) 142) (λ e. rw (long_task, e) (omega arith))
    (λ e. by_bool (is_mark (get_or xs at 0) (get_or xs (at + 1) 0) SP) (λ s. rw (long_task, e, s) h) (λ s. rw (long_task, e, s) (omega arith)))

goes_within : (c : Coming) (xs : List ℕ) → Within (goes_on c xs) (length xs)
goes_within More xs = tt
goes_within Full xs = long_within xs (records_end xs) (omega arith)
goes_within Ended xs = omega arith

job_within : (c : Coming) (xs : List ℕ) → Within (job_task c xs) (length xs)
unfolding job_task
job_within c xs = by_bool (ends_in xs) (λ e. rw (job_task, e) (omega arith)) (λ e. rw (job_task, e) (goes_within c xs))

-- a split that is skipped

skip_within : (n : ℕ) (b a : Verdict) (c : Coming) (xs : List ℕ) → Within (skip_task n b a c xs) (length xs)
unfolding skip_task
skip_within n b a c xs = by_bool (leb n (length xs)) (λ e. rw (skip_task, e) tt) (λ e. rw (skip_task, e) (by_coming c))
  where
    by_coming : (c : Coming) → Within (skip_on c (n - length xs) b a) (length xs)
    by_coming More = tt
    by_coming Full = tt
    by_coming Ended = tt

-- calls

called_within : (xs : List ℕ) (o : Option (rule.Call × List ℕ)) → Within (called xs o) (length xs)
called_within xs none = omega arith
called_within xs (some (rule.ST, rest)) = omega arith
called_within xs (some (rule.DL r n, rest)) = omega arith

call_within : (c : Coming) (xs : List ℕ) → Within (call_task c xs) (length xs)
unfolding call_task
call_within c [] = by_bool (may_come c) (λ e. rw (call_task, e) tt) (λ e. rw (call_task, e) tt)
call_within c (x ∷ xs) =
    by_bool (may_come c && ltb (length (x ∷ xs)) (wanted_at (x ∷ xs))) (λ e. rw (call_task, e) tt)
    (λ e. rw (call_task, e) (called_within (x ∷ xs) (rule.next_call (x ∷ xs))))

pub task_within : (p : Phase) (c : Coming) (xs : List ℕ) → Within (task_of p c xs) (length xs)
task_within phase.Job c xs = job_within c xs
task_within (phase.Skip n b a) c xs = skip_within n b a c xs
task_within phase.Calls c xs = call_within c xs
task_within phase.Over c xs = tt

-- A turn

opened_used : (o : Outcome Machine) (n k : ℕ) (m : Machine) → n ≤ k → (opened o n m).used ≤ k
opened_used (refused_by j) n k m h = h
opened_used (accepted j) n k m h = h

does_used : (fault : Option ℕ) (p : Phase) (m : Machine) (xs : List ℕ) (t : Task) → Within t (length xs) → (does fault p m xs t).used ≤ length xs
unfolding does
does_used fault p m xs task.Wait h = omega arith
does_used fault p m xs (task.Open n) h = opened_used (open_in fault (take n xs)) n (length xs) m h
does_used fault p m xs (task.Skip at size) h = h
does_used fault p m xs (task.Pass q) h = omega arith
does_used fault p m xs (task.Tell v) h = omega arith
does_used fault p m xs (task.Answer c n) h = h
does_used fault p m xs task.End h = omega arith

pub turned_used : (fault : Option ℕ) (c : Coming) (p : Phase) (m : Machine) (xs : List ℕ) → (turned fault c p m xs).used ≤ length xs
turned_used fault c p m xs = does_used fault p m xs (task_of p c xs) (task_within p c xs)

-- Waiting

-- a task that does not wait for more bytes behind those that are there
abbrev Passes : Task → Type 0
Passes task.Wait = ⊥
Passes (task.Open k) = Unit {0}
Passes (task.Skip at size) = Unit {0}
Passes (task.Pass p) = Unit {0}
Passes (task.Tell v) = Unit {0}
Passes (task.Answer c k) = Unit {0}
Passes task.End = Unit {0}

-- and one that waits for none at all
abbrev Acts : Task → Type 0
Acts task.Wait = ⊥
Acts (task.Open k) = Unit {0}
Acts (task.Skip at size) = Unit {0}
Acts (task.Pass p) = ⊥
Acts (task.Tell v) = Unit {0}
Acts (task.Answer c k) = Unit {0}
Acts task.End = Unit {0}

opened_waits : (o : Outcome Machine) (n : ℕ) (m : Machine) → (opened o n m).waits ≡ false
opened_waits (refused_by j) n m = refl
opened_waits (accepted j) n m = refl

module _ (fault : Option ℕ) (p : Phase) (m : Machine) (xs : List ℕ) where
  acts_waits : (t : Task) → Acts t → (does fault p m xs t).waits ≡ false
  unfolding does
  acts_waits task.Wait h = absurd h
  acts_waits (task.Open n) h = opened_waits (open_in fault (take n xs)) n m
  acts_waits (task.Skip at size) h = refl
  acts_waits (task.Pass q) h = absurd h
  acts_waits (task.Tell v) h = refl
  acts_waits (task.Answer c n) h = refl
  acts_waits task.End h = refl

  passes_used : (t : Task) → Passes t → (does fault p m xs t).waits ≡ true → (does fault p m xs t).used ≡ length xs
  unfolding does
  passes_used task.Wait h e = absurd h
  passes_used (task.Open n) h e = clash (cc (opened_waits (open_in fault (take n xs)) n m))
  passes_used (task.Skip at size) h e = clash (cc)
  passes_used (task.Pass q) h e = refl
  passes_used (task.Tell v) h e = clash (cc)
  passes_used (task.Answer c n) h e = clash (cc)
  passes_used task.End h e = clash (cc)

called_acts : (xs : List ℕ) (o : Option (rule.Call × List ℕ)) → Acts (called xs o)
called_acts xs none = tt
called_acts xs (some (rule.ST, rest)) = tt
called_acts xs (some (rule.DL r n, rest)) = tt

called_passes : (xs : List ℕ) (o : Option (rule.Call × List ℕ)) → Passes (called xs o)
called_passes xs none = tt
called_passes xs (some (rule.ST, rest)) = tt
called_passes xs (some (rule.DL r n, rest)) = tt

-- where the input has ended nothing waits
ended_acts : (p : Phase) (xs : List ℕ) → Acts (task_of p Ended xs)
unfolding job_task skip_task call_task
ended_acts phase.Job xs = by_bool (ends_in xs) (λ e. rw (job_task, e) tt) (λ e. rw (job_task, e) tt)
ended_acts (phase.Skip n b a) xs = by_bool (leb n (length xs)) (λ e. rw (skip_task, e) tt) (λ e. rw (skip_task, e) tt)
ended_acts phase.Calls [] = tt
ended_acts phase.Calls (x ∷ xs) = called_acts (x ∷ xs) (rule.next_call (x ∷ xs))
ended_acts phase.Over xs = tt

pub ended_waits : (fault : Option ℕ) (p : Phase) (m : Machine) (xs : List ℕ) → (turned fault Ended p m xs).waits ≡ false
ended_waits fault p m xs = acts_waits fault p m xs (task_of p Ended xs) (ended_acts p xs)

-- where there is no room, a turn that waits has used all
long_passes : (xs : List ℕ) (at : ℕ) → Passes (long_task xs at)
unfolding long_task
long_passes xs at =
    by_bool (ltb (length xs - at) 142) (λ e. rw (long_task, e) tt)
    (λ e. by_bool (is_mark (get_or xs at 0) (get_or xs (at + 1) 0) SP) (λ s. rw (long_task, e, s) tt) (λ s. rw (long_task, e, s) tt))

wanted_ten : (xs : List ℕ) → wanted_at xs ≤ 10
wanted_ten [] = omega arith
wanted_ten (a ∷ []) = omega arith
wanted_ten (a ∷ b ∷ xs) = by_bool (is_mark a b (68, 76)) (λ e. rw e (omega arith)) (λ e. rw e (omega arith))

full_passes : (p : Phase) (xs : List ℕ) → 10 ≤ length xs → Passes (task_of p Full xs)
unfolding job_task skip_task call_task
full_passes phase.Job xs h = by_bool (ends_in xs) (λ e. rw (job_task, e) tt) (λ e. rw (job_task, e) (long_passes xs (records_end xs)))
full_passes (phase.Skip n b a) xs h = by_bool (leb n (length xs)) (λ e. rw (skip_task, e) tt) (λ e. rw (skip_task, e) tt)
full_passes phase.Calls [] h = absurd (omega arith)
full_passes phase.Calls (x ∷ xs) h =
    let w : ltb (length (x ∷ xs)) (wanted_at (x ∷ xs)) ≡ false = le-ltb (length (x ∷ xs)) (wanted_at (x ∷ xs)) (omega (arith, wanted_ten (x ∷ xs))) in
    rw (call_task, w) (called_passes (x ∷ xs) (rule.next_call (x ∷ xs)))
full_passes phase.Over xs h = tt

pub full_waits : (fault : Option ℕ) (p : Phase) (m : Machine) (xs : List ℕ) → 10 ≤ length xs → (turned fault Full p m xs).waits ≡ true
    → (turned fault Full p m xs).used ≡ length xs
full_waits fault p m xs h e = passes_used fault p m xs (task_of p Full xs) (full_passes p xs h) e
