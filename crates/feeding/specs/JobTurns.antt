-- A turn while the job is still coming.
use Rattle.std.specs.Prelude.{◌≡◌, true, false, ℕ, ◌-◌, ◌≤◌, ◌<◌, length, take, drop, ltb}
use Rattle.std.proofs.Math.Path.{refl}
use Rattle.std.proofs.Common.{sym, ap, subst, ◌∙◌, arith, length-append, ltb-true, ltb-false}
use mathlib.Core.List.{List, [], ◌∷◌, ◌++◌, append-nil, append_assoc}
use Rattle.std.proofs.Math.Option.{none}
use Rattle.std.proofs.Math.Seq.{take-length, drop-length, take-append_seam, drop-append_seam}
use Rattle.laws.specs.Table.{by_bool, clash, and_left, and_right}
use Rattle.rules.specs.Job.{Reading, Outcome, refused_by, accepted}
use Rattle.rules.specs.Machine.{Machine}
use Rattle.rules.specs.Scan.{«open»}
use Rattle.rules.specs.Session as rule
use Rattle.rules.specs.Session.{at_call, behind_job}
use Rattle.call_records.specs.JobEnd.{job_rest}
use Rattle.feeding.specs.declared.Coming.{Coming}
use Rattle.feeding.specs.declared.Coming.TheVariants.{More, Full, Ended}
use Rattle.feeding.specs.declared.Phase.TheVariants as phase
use Rattle.feeding.specs.Tasks.{ends_in, long_task, goes_on, job_task}
use Rattle.feeding.specs.Turned.{opened, does}
use Rattle.feeding.specs.Ahead.{ahead, Fits, Says}
use Rattle.feeding.specs.Walk.{few_bytes, Walk, Walked, walked, rest_none}
use Rattle.feeding.specs.Openings.{behind_none, session_call, session_all}
use Rattle.feeding.specs.LongTurns.{long_refused, long_says}

-- Turns

-- what an opening says
opened_says : (o : Outcome Machine) (n : ℕ) (m : Machine) (xs ys zs : List ℕ) → drop n xs ++ ys ≡ zs
    → rule.opened o zs ≡ (opened o n m).text ++ ahead (opened o n m).phase (opened o n m).machine (drop (opened o n m).used xs ++ ys)
unfolding rule.opened
opened_says (refused_by k) n m xs ys zs e = sym (append-nil _)
opened_says (accepted k) n m xs ys zs e = rw e

module _ (front rest : List ℕ) (o : Outcome Reading) (w : Walk front o) (m : Machine) where
  -- the job has ended
  ended_says : (ys : List ℕ) → at_call (rest ++ ys) ≡ true
      → Says phase.Job m (front ++ rest) ys (opened («open» (take (length front) (front ++ rest))) (length front) m)
  ended_says ys c =
      rw (append_assoc front rest ys, take-append_seam front rest)
      (session_call front o w (rest ++ ys) c
      ∙ opened_says («open» front) (length front) m (front ++ rest) ys (rest ++ ys) (rw (drop-append_seam front rest)))

  -- so has the input, with the job
  all_says : behind_job (length rest) rest ≡ 0
      → Says phase.Job m (front ++ rest) [] (opened («open» (take (length (front ++ rest)) (front ++ rest))) (length (front ++ rest)) m)
  all_says c =
      rw (append-nil (front ++ rest), take-length (front ++ rest))
      (session_all front o w rest c
      ∙ opened_says («open» (front ++ rest)) (length (front ++ rest)) m (front ++ rest) [] [] (rw (drop-length (front ++ rest))))

-- Any job

call_more : (xs ys : List ℕ) → at_call xs ≡ true → 0 < length xs → at_call (xs ++ ys) ≡ true
unfolding at_call
call_more [] ys c h = absurd (omega arith)
call_more (x ∷ []) ys c h = clash (cc)
call_more (x ∷ y ∷ xs) ys c h = c

empty : (xs : List ℕ) → length xs ≤ 0 → xs ≡ []
empty [] h = refl
empty (x ∷ xs) h = absurd (omega arith)

module _ (m : Machine) (xs ys : List ℕ) (w : Walked [] xs (job_rest xs)) where
  at_front : length xs - length (job_rest xs) ≡ length w.more
  at_front = omega (arith, ap length w.is, length-append w.more (job_rest xs))

  -- where the job goes on, its records are behind all bytes, or what is left is no whole record
  left_over : ends_in xs ≡ false → at_call (job_rest xs) ≡ true → job_rest xs ≡ []
  left_over e c =
      empty (job_rest xs)
      (omega (arith, ltb-false (length xs - length (job_rest xs)) (length xs) (rw c at e), ap length w.is, length-append w.more (job_rest xs)))

  none_behind : ends_in xs ≡ false → behind_job (length (job_rest xs)) (job_rest xs) ≡ 0
  unfolding behind_job
  none_behind e =
      by_bool (at_call (job_rest xs)) (λ c. rw (left_over e c)) (λ c. behind_none (job_rest xs) c (rest_none xs c))

  full_by : (o : Outcome Reading) → Walk w.more o → ends_in xs ≡ false → 4096 ≤ length xs
      → Says phase.Job m (w.more ++ job_rest xs) ys
      (does none phase.Job m (w.more ++ job_rest xs) (long_task (w.more ++ job_rest xs) (length w.more)))
  full_by (refused_by n) v e h = long_refused w.more (job_rest xs) ys m n v
  full_by (accepted d) v e h =
      let s : length w.more ≤ 2518 = few_bytes d _ (v.few d refl) in
      let l : 142 ≤ length (job_rest xs) = omega (arith, s, ap length w.is, length-append w.more (job_rest xs)) in
      by_bool (at_call (job_rest xs)) (λ c. absurd (omega (arith, l, ap length (left_over e c))))
      (λ c. long_says w.more d v ys m (job_rest xs) c (rest_none xs c) l)

  goes_says : (c : Coming) → Fits c xs ys → ends_in xs ≡ false → Says phase.Job m xs ys (does none phase.Job m xs (goes_on c xs))
  unfolding does
  goes_says More f e = refl
  goes_says Full f e =
      rw at_front (subst (λ (z : List ℕ). Says phase.Job m z ys (does none phase.Job m z (long_task z (length w.more)))) (sym w.is)
      (full_by w.comes w.walk e f))
  goes_says Ended f e =
      rw f (subst (λ (z : List ℕ). Says phase.Job m z [] (opened («open» (take (length z) z)) (length z) m)) (sym w.is)
      (all_says w.more (job_rest xs) w.comes w.walk m (none_behind e)))

  ends_says : ends_in xs ≡ true → Says phase.Job m xs ys (opened («open» (take (length xs - length (job_rest xs)) xs)) (length xs - length (job_rest xs)) m)
  ends_says e =
      let at = length xs - length (job_rest xs) in
      let c : at_call (job_rest xs) ≡ true = and_left (at_call (job_rest xs)) (ltb at (length xs)) e in
      let l : 0 < length (job_rest xs) = omega (arith, ltb-true at (length xs) (and_right (at_call (job_rest xs)) (ltb at (length xs)) e)) in
      rw at_front (subst (λ (z : List ℕ). Says phase.Job m z ys (opened («open» (take (length w.more) z)) (length w.more) m)) (sym w.is)
      (ended_says w.more (job_rest xs) w.comes w.walk m ys (call_more (job_rest xs) ys c l)))

pub job_says : (m : Machine) (xs ys : List ℕ) (c : Coming) → Fits c xs ys → Says phase.Job m xs ys (does none phase.Job m xs (job_task c xs))
unfolding does job_task
job_says m xs ys c f =
    by_bool (ends_in xs) (λ e. rw (job_task, e) (ends_says m xs ys (walked xs) e)) (λ e. rw (job_task, e) (goes_says m xs ys (walked xs) c f e))
