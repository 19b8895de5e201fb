-- Sessions by the records at the front of their jobs.
use Rattle.std.specs.Prelude.{◌≡◌, refl, true, false, List, [], ◌∷◌, ◌++◌, ℕ, zero, suc, ◌+◌, ◌-◌, ◌≤◌, take, drop}
use Rattle.std.proofs.Common.{◌∙◌, append-nil, arith}
use Rattle.std.proofs.Math.Option.{none}
use Rattle.std.proofs.Math.ListN.{length, length-append}
use Rattle.std.proofs.Math.Seq.{take-length, drop-length, take-append-add, drop-append-add}
use Rattle.laws.specs.Table.{by_bool, by_option}
use Rattle.laws.specs.Accepted.{by_outcome}
use Rattle.rules.specs.Job.{Job, Reading, Refusal, Outcome, refused_by, accepted, next_record, finish, parse}
use Rattle.rules.specs.Machine.{Machine, start}
use Rattle.rules.specs.Scan.{«open»}
use Rattle.rules.specs.Session as rule
use Rattle.rules.specs.Session.{at_call, behind_job}
use Rattle.feeding.specs.Fuel.{record_less}
use Rattle.feeding.specs.Walk.{read_on, Walk}

-- The job's end

behind_low_next : (f : ℕ) (xs : List ℕ) → ((rest : List ℕ) → behind_job f rest ≤ length rest) → behind_job (suc f) xs ≤ length xs
unfolding behind_job
behind_low_next f xs ih =
    by_bool (at_call xs) (λ e. rw (e, behind_job) (omega arith))
    (λ e. by_option (next_record xs) (λ o. rw (e, o, behind_job) (omega arith))
    (λ r o. rw (e, o, behind_job) (let h = ih r.1 in let l = record_less xs r.0 r.1 o in omega arith)))

behind_low : (f : ℕ) (xs : List ℕ) → behind_job f xs ≤ length xs
unfolding behind_job
behind_low zero xs = omega arith
behind_low (suc f) xs = behind_low_next f xs (behind_low f)

behind_call : (f : ℕ) (xs : List ℕ) → at_call xs ≡ true → behind_job f xs ≡ length xs
unfolding behind_job
behind_call zero xs c = refl
behind_call (suc f) xs c = rw (c, behind_job)

pub behind_none : (xs : List ℕ) → at_call xs ≡ false → next_record xs ≡ none → behind_job (length xs) xs ≡ 0
unfolding behind_job at_call
behind_none [] c o = refl
behind_none (x ∷ xs) c o = rw (c, o, behind_job)

-- Openings

-- what the records come to, opened
abbrev pub made : Outcome Job → Outcome Machine
made (refused_by n) = refused_by n
made (accepted j) = accepted (start j)

abbrev pub opens : Outcome Reading → Outcome Machine
opens (refused_by n) = refused_by n
opens (accepted x) = made (finish x.draft)

by_job : (o : Outcome Job) → elim o as (λ (x : Outcome Job). Outcome Machine) [ refused_by n ↦ refused_by n | accepted j ↦ accepted (start j) ] ≡ made o
by_job (refused_by n) = refl
by_job (accepted j) = refl

pub open_walk : (front : List ℕ) (o : Outcome Reading) → Walk front o → (xs : List ℕ) → «open» (front ++ xs) ≡ opens (read_on o xs)
unfolding «open» parse
open_walk front o w xs =
    by_outcome (read_on o xs) (λ n e. rw («open», parse, w.reads xs, e)) (λ x e. rw («open», parse, w.reads xs, e) (by_job (finish x.draft)))

module _ (front : List ℕ) (o : Outcome Reading) (w : Walk front o) where
  -- a session by the records at the front of its job
  session_walk : (xs : List ℕ) → let k = length xs - behind_job (length xs) xs in
      rule.session (front ++ xs) ≡ rule.opened («open» (front ++ take k xs)) (drop k xs)
  unfolding rule.session
  session_walk xs =
      let k = length xs - behind_job (length xs) xs in
      let e : length (front ++ xs) - behind_job (length (front ++ xs)) (front ++ xs) ≡ length front + k =
      omega (arith, w.behind xs, behind_low (length xs) xs, length-append front xs) in
      rw (rule.session, e, take-append-add front xs k, drop-append-add front xs k)

  -- a call follows
  pub session_call : (xs : List ℕ) → at_call xs ≡ true → rule.session (front ++ xs) ≡ rule.opened («open» front) xs
  session_call xs c =
      let e : length xs - behind_job (length xs) xs ≡ 0 = omega (arith, behind_call (length xs) xs c) in
      session_walk xs ∙ rw (e, append-nil front)

  -- all bytes are the job's
  pub session_all : (xs : List ℕ) → behind_job (length xs) xs ≡ 0 → rule.session (front ++ xs) ≡ rule.opened («open» (front ++ xs)) []
  session_all xs c =
      let e : length xs - behind_job (length xs) xs ≡ length xs = omega (arith, c) in
      session_walk xs ∙ rw (e, take-length xs, drop-length xs)

-- records that are refused are, whatever follows
pub session_refused : (front : List ℕ) (r : Refusal) → Walk front (refused_by r) → (xs : List ℕ) → rule.session (front ++ xs) ≡ rule.ended (rule.refusal_line r)
unfolding rule.opened
session_refused front r w xs = session_walk front (refused_by r) w xs ∙ rw (open_walk front (refused_by r) w)
