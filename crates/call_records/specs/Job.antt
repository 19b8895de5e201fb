-- Where the job ends.
use Rattle.std.specs.Prelude.{◌≡◌, refl, true, false, cond, List, [], ◌∷◌, length, drop, get_or, Ok, Err}
use Rattle.std.specs.Result.{result_unwrap_or}
use Rattle.std.proofs.Common.{sym, ap, ◌∙◌, arith, length-append, length-drop, drop_of_length-le}
use Rattle.std.proofs.Math.Option.{none, some}
use Prim.Native.Nat.{ℕ, zero, suc, ◌+◌, ◌-◌, ◌≤◌, ◌<◌}
use Rattle.laws.specs.Table.{by_bool, by_option, clash}
use Rattle.rules.specs.Job.{Record, next_record}
use Rattle.rules.specs.Session.{at_call, is_call, behind_job}
use Rattle.call_records.specs.CallLaws.{two_at}
use Rattle.call_records.specs.Taken.{size_low, record_takes}
use Rattle.call_records.specs.JobEnd.{behind_records, job_rest, records_end, job_end}

pub at_end : (xs : List ℕ) (at : ℕ) → length xs ≤ at → true ≡ at_call (drop at xs)
unfolding at_call
at_end xs at h = rw (drop_of_length-le xs {i = at} h)

single : (ys : List ℕ) → 0 < length ys → length ys < 2 → at_call ys ≡ false
unfolding at_call
single [] h k = absurd (omega arith)
single (a ∷ []) h k = refl
single (a ∷ b ∷ ys) h k = absurd (omega arith)

pub at_last : (xs : List ℕ) (at : ℕ) → at < length xs → length xs < at + 2 → false ≡ at_call (drop at xs)
at_last xs at h k = sym (single (drop at xs) (simp length-drop (omega arith)) (simp length-drop (omega arith)))

pub at_two : (xs : List ℕ) (at : ℕ) → at + 2 ≤ length xs → is_call (get_or xs at 0) (get_or xs (at + 1) 0) ≡ at_call (drop at xs)
unfolding at_call
at_two xs at h = rw (two_at xs at)

-- what is behind the records of all bytes is behind those from a position on, with fuel that is enough
pub record Ahead (xs : List ℕ) (at : ℕ) : Type 0 where
  pub fuel : ℕ
  pub enough : length xs - at ≤ fuel
  pub is : behind_records fuel (drop at xs) ≡ job_rest xs

pub ahead_start : (xs : List ℕ) → Ahead xs 0
ahead_start xs = record { fuel = length xs; enough = omega arith; is = refl }

-- with no fuel there are no bytes
spent : {P : Type 0} (xs : List ℕ) (at : ℕ) → length xs - at ≤ 0 → false ≡ at_call (drop at xs) → P
spent xs at h e = clash (cc (e ∙ sym (at_end xs at (omega arith))))

-- where the records end at a position
ends_at : (xs : List ℕ) (at : ℕ) → at ≤ length xs → drop at xs ≡ job_rest xs → at ≡ records_end xs
ends_at xs at h e =
    let l : length xs - length (drop at xs) ≡ at = simp length-drop (omega arith) in
    rw (← e, l)

ends_ok : (xs : List ℕ) (at : ℕ) → at ≡ records_end xs → true ≡ at_call (job_rest xs) → Ok at ≡ job_end xs
ends_ok xs at e w = rw (← w, e)

ends_err : (xs : List ℕ) (at : ℕ) → at ≡ records_end xs → false ≡ at_call (job_rest xs) → Err at ≡ job_end xs
ends_err xs at e w = rw (← w, e)

module _ (xs : List ℕ) (at : ℕ) where
  next_by : (f : ℕ) → length xs - at ≤ f → behind_records f (drop at xs) ≡ job_rest xs
      → false ≡ at_call (drop at xs) → (r : Record) (next : ℕ) → some (r, drop next xs) ≡ next_record (drop at xs) → at < next → Ahead xs next
  unfolding behind_records
  next_by zero h e c r next g l = spent xs at h c
  next_by (suc f) h e c r next g l = record { fuel = f; enough = omega arith; is = (rw (← c, behind_records, ← g) at e) }

  pub ahead_next : Ahead xs at → false ≡ at_call (drop at xs) → (r : Record) (next : ℕ) → some (r, drop next xs) ≡ next_record (drop at xs) → at < next →
      Ahead xs next
  ahead_next a = next_by a.fuel a.enough a.is

  stop_by : (f : ℕ) → behind_records f (drop at xs) ≡ job_rest xs → true ≡ at_call (drop at xs) → drop at xs ≡ job_rest xs
  unfolding behind_records
  stop_by zero e c = e
  stop_by (suc f) e c = rw (← c, behind_records) at e

  -- the job ends here
  pub ahead_stop : Ahead xs at → at ≤ length xs → true ≡ at_call (drop at xs) → Ok at ≡ job_end xs
  ahead_stop a h c = let r = stop_by a.fuel a.is c in ends_ok xs at (ends_at xs at h r) (c ∙ ap at_call r)

  short_by : (f : ℕ) → length xs - at ≤ f → behind_records f (drop at xs) ≡ job_rest xs
      → false ≡ at_call (drop at xs) → none ≡ next_record (drop at xs) → drop at xs ≡ job_rest xs
  unfolding behind_records
  short_by zero h e c g = spent xs at h c
  short_by (suc f) h e c g = rw (← c, behind_records, ← g) at e

  -- here begins what is no whole record
  pub ahead_short : Ahead xs at → at ≤ length xs → false ≡ at_call (drop at xs) → none ≡ next_record (drop at xs)
      → Err at ≡ job_end xs
  ahead_short a h c g = let r = short_by a.fuel a.enough a.is c g in ends_err xs at (ends_at xs at h r) (c ∙ ap at_call r)

-- The job's length

module _ (f : ℕ) (bytes : List ℕ) where
  abbrev Behind : Type 0
  Behind = behind_job f bytes ≡ cond (at_call (behind_records f bytes)) (length (behind_records f bytes)) 0

-- one record more
behind_next : (f : ℕ) (bytes : List ℕ) → length bytes ≤ suc f → ((rest : List ℕ) → length rest ≤ f → Behind f rest) → Behind (suc f) bytes
unfolding behind_job behind_records
behind_next f bytes h ih =
    by_bool (at_call bytes) (λ e. rw (e, behind_job, behind_records, e))
    (λ e. by_option (next_record bytes) (λ o. rw (e, o, behind_job, behind_records, e))
    (λ r o.
    let t = record_takes bytes r.0 r.1 o in
    let l = length-append t.front r.1 in
    rw (e, o, behind_job, behind_records) (ih r.1 (omega (arith, ap length t.is, t.size, size_low r.0)))))

behind_is : (f : ℕ) (bytes : List ℕ) → length bytes ≤ f → Behind f bytes
unfolding behind_job behind_records at_call
behind_is zero [] h = refl
behind_is zero (b ∷ bytes) h = absurd (omega arith)
behind_is (suc f) bytes h = behind_next f bytes h (behind_is f)

-- how many bytes are the job's: up to a call, or all of them
pub job_length : (xs : List ℕ) → result_unwrap_or (job_end xs) (length xs) ≡ length xs - behind_job (length xs) xs
job_length xs =
    by_bool (at_call (job_rest xs)) (λ e. rw (e, behind_is (length xs) xs (omega arith), e))
    (λ e. rw (e, behind_is (length xs) xs (omega arith), e) (omega arith))
