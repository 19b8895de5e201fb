-- What the code finds, by the tasks' definitions.
use Rattle.std.specs.Prelude.{◌≡◌, refl, true, false, ◌&&◌, List, [], ◌∷◌, ℕ, ◌-◌, ◌≤◌, ◌<◌, length, drop, ltb, Some, None, Ok, Err}
use Rattle.std.proofs.Common.{ap, ◌∙◌, arith, length-drop, lt-ltb, le-ltb}
use Rattle.std.proofs.Math.Option.{none, some}
use Rattle.laws.specs.Table.{by_bool, clash}
use Rattle.rules.specs.Session as rule
use Rattle.call_records.specs.JobEnd.{job_rest, records_end, job_end}
use Rattle.call_records.specs.Calls.{call_of, wanted_at}
use Rattle.call_records.specs.declared.calls.Call.{Call}
use Rattle.call_records.specs.declared.calls.Call.TheVariants.{Step, Deliver}
use Rattle.feeding.specs.declared.Coming.{Coming}
use Rattle.feeding.specs.declared.Task.TheVariants as task
use Rattle.feeding.specs.Tasks.{goes_on, job_task, may_come, called, call_task}

-- A job

-- where the records end, by what the code says of it
ok_is : (xs : List ℕ) (at : ℕ) → Ok at ≡ job_end xs → (rule.at_call (job_rest xs) ≡ true) × (at ≡ records_end xs)
ok_is xs at e = by_bool (rule.at_call (job_rest xs)) (λ w. (w, cc (rw w at e))) (λ w. clash (cc (rw w at e)))

err_is : (xs : List ℕ) (at : ℕ) → Err at ≡ job_end xs → (rule.at_call (job_rest xs) ≡ false) × (at ≡ records_end xs)
err_is xs at e = by_bool (rule.at_call (job_rest xs)) (λ w. clash (cc (rw w at e))) (λ w. (w, cc (rw w at e)))

pub ends_ok : (xs : List ℕ) (at : ℕ) → Ok at ≡ job_end xs → at ≡ records_end xs
ends_ok xs at e = (ok_is xs at e).1

pub ends_err : (xs : List ℕ) (at : ℕ) → Err at ≡ job_end xs → at ≡ records_end xs
ends_err xs at e = (err_is xs at e).1

-- the job is there
pub job_opens : (c : Coming) (xs : List ℕ) (at : ℕ) → Ok at ≡ job_end xs → at < length xs → task.Open at ≡ job_task c xs
unfolding job_task
job_opens c xs at e h = let k = ok_is xs at e in let l = lt-ltb at (length xs) h in rw (k.0, ← k.1, l)

-- or goes on
pub job_goes_ok : (c : Coming) (xs : List ℕ) (at : ℕ) → Ok at ≡ job_end xs → length xs ≤ at → goes_on c xs ≡ job_task c xs
unfolding job_task
job_goes_ok c xs at e h = let k = ok_is xs at e in let l = le-ltb at (length xs) h in rw (k.0, ← k.1, l)

pub job_goes_err : (c : Coming) (xs : List ℕ) (at : ℕ) → Err at ≡ job_end xs → goes_on c xs ≡ job_task c xs
unfolding job_task
job_goes_err c xs at e = let k = err_is xs at e in rw (k.0)

-- Calls

-- a call waits
pub call_waits : (c : Coming) (xs : List ℕ) → may_come c && ltb (length xs) (wanted_at xs) ≡ true → task.Wait ≡ call_task c xs
unfolding call_task
call_waits c [] h = by_bool (may_come c) (λ e. rw e) (λ e. clash (cc))
call_waits c (x ∷ xs) h = rw h

-- there is none any more
pub call_ends : (c : Coming) (xs : List ℕ) → may_come c && ltb (length xs) (wanted_at xs) ≡ false → length xs ≡ 0 → task.End ≡ call_task c xs
unfolding call_task
call_ends c [] h e = by_bool (may_come c) (λ u. clash (cc)) (λ u. rw u)
call_ends c (x ∷ xs) h e = absurd (omega arith)

-- there is one
call_some : (c : Coming) (xs : List ℕ)
    → may_come c && ltb (length xs) (wanted_at xs) ≡ false → (length xs ≡ 0 → ⊥) → called xs (rule.next_call xs) ≡ call_task c xs
unfolding call_task
call_some c [] h e = absurd (e refl)
call_some c (x ∷ xs) h e = rw h

by_call : (xs : List ℕ) (k : Call) (n : ℕ) → n ≤ length xs → task.Answer (Some k) n ≡ called xs (some (call_of k, drop n xs))
by_call xs Step n h = let l : length xs - length (drop n xs) ≡ n = simp length-drop (omega arith) in rw l
by_call xs (Deliver r m) n h = let l : length xs - length (drop n xs) ≡ n = simp length-drop (omega arith) in rw l

pub call_answers : (c : Coming) (xs : List ℕ) (k : Call) (n : ℕ) → may_come c && ltb (length xs) (wanted_at xs) ≡ false → (length xs ≡ 0 → ⊥)
    → some (call_of k, drop n xs) ≡ rule.next_call xs → n ≤ length xs → task.Answer (Some k) n ≡ call_task c xs
call_answers c xs k n h e f g = by_call xs k n g ∙ ap (called xs) f ∙ call_some c xs h e

pub call_bad : (c : Coming) (xs : List ℕ) → may_come c && ltb (length xs) (wanted_at xs) ≡ false → (length xs ≡ 0 → ⊥)
    → none ≡ rule.next_call xs → task.Answer None (length xs) ≡ call_task c xs
call_bad c xs h e f = ap (called xs) f ∙ call_some c xs h e
