-- What an opening of the rules comes to, as it is told: a refusal by whatever number it has, with the index of a run at fault where it has one.
use Rattle.std.specs.Prelude.{◌≡◌, refl, ℕ, None, Ok, Err}
use Rattle.rules.specs.Job.{Outcome, refused_by, accepted}
use Rattle.jobs.specs.Refusal as jobs
use Rattle.turn.specs.Told.{ToldVerdict, telling, verdict_told}
use Rattle.turn.specs.declared.Told.{Told}

-- a refusal by its number alone
abbrev pub numbered : ℕ → Told
numbered n = record { number = n; run = None }

abbrev pub verdict_of : {A : Type 0} → Outcome A → ToldVerdict
verdict_of (refused_by r) = Err (telling r)
verdict_of (accepted x) = Ok tt

-- the verdict of an answer of the code is that answer as it is told
pub verdict_judged : {A : Type 0} (v : jobs.Verdict) (x : A) → verdict_of (jobs.judged v x) ≡ verdict_told v
verdict_judged (Ok u) x = refl
verdict_judged (Err r) x = refl
