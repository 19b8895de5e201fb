-- What is given goes on or out, by its step.
use Rattle.std.specs.Prelude.{◌≡◌, refl, ◌⊎◌, Bool, ℕ, ◌+◌, Option, None, Some}
use Rattle.std.proofs.Math.Option.{none, some}
use Rattle.std.proofs.Common.{inl, inr, add-one}
use Rattle.rules.specs.Job.{Job}
use Rattle.rules.specs.Port.{Batch}
use Rattle.rules.specs.Operators.{Step, end, more, final}
use Rattle.rules.specs.Machine.{Machine, source_at, stage_at}
use Rattle.rules.specs.Ports.{push_out}
use Rattle.rules.specs.Drive.{is_more, source_step, stage_step, give_out, source_out, said_more, finished_stages, compute}
use Rattle.batches.specs.declared.batch.Batch as batch
use Rattle.batches.specs.Batch.{batch_of}
use Rattle.operator.specs.declared.answer.Step as given
use Rattle.operator.specs.declared.answer.Step.TheVariants.{More, Final}
use Rattle.operator.specs.Answer.{step_of}
use Rattle.numbers.specs.Opt.{option_of}
use Rattle.table_pipes.specs.declared.stages.Stage as code
use Rattle.table_pipes.specs.Stage.{stage_of}
use Rattle.order.specs.RangePorts.{OutFits}
use Rattle.driver.specs.Turns.{finish_next, source_gives}

-- it goes out
pub give_batch : (p : ℕ) (x : given.Step) (b : batch.Batch) (m : Machine) → (x ≡ More b) ⊎ (x ≡ Final b) → push_out p (batch_of b) m ≡ give_out p (step_of x, m)
unfolding give_out
give_batch p x b m (inl e) = rw e
give_batch p x b m (inr e) = rw e

-- the next stage is finished
pub finish_none : (p : ℕ) (x : Option ℕ) (m : Machine) → x ≡ None → m ≡ finish_next p (option_of x) m
finish_none p x m e = rw e

pub finish_one : (p n : ℕ) (x : Option ℕ) (m : Machine) → x ≡ Some n → finished_stages p (n + 1) m ≡ finish_next p (option_of x) m
finish_one p n x m e = rw (e, add-one n)

-- through the stage, if there is one
pub out_plain : (p : ℕ) (b : Batch) (x : code.Stage) (m : Machine) → stage_of x ≡ stage_at m p → x.cut ≡ None → push_out p b m ≡ source_out p b m
unfolding source_out
out_plain p b x m e d = let h : (stage_at m p).cut ≡ none = rw (← e, d) in rw (h, source_out)

pub out_cut : (p k : ℕ) (b : Batch) (x : code.Stage) (m : Machine) → stage_of x ≡ stage_at m p → x.cut ≡ Some k → give_out p (stage_step p 0 m) ≡ source_out p b m
unfolding source_out
out_cut p k b x m e d = let h : (stage_at m p).cut ≡ some k = rw (← e, d) in rw (h, source_out)

-- what the source gives goes on
pub compute_is : (p : ℕ) (s : Step) (b : Bool) (m n k : Machine) → s ≡ (source_step p (source_at m p) m).0 → n ≡ (source_step p (source_at m p) m).1 →
    b ≡ is_more s → k ≡ said_more p b n
    → source_gives p s k ≡ compute p m
unfolding compute
compute_is p s b m n k e d q w =
    rw (w, q, e, d) (goes_on (source_step p (source_at m p) m).0 (said_more p (is_more (source_step p (source_at m p) m).0) (source_step p (source_at m p) m).1))
  where
    goes_on : (s : Step) (m : Machine) → source_gives p s m ≡ elim s [ end ↦ finished_stages p 0 m | more b ↦ source_out p b m | final b ↦ source_out p b m ]
    goes_on end m = refl
    goes_on (more b) m = refl
    goes_on (final b) m = refl

-- one batch for another that is equal
pub same_fits : (j : Job) (p : ℕ) (b c : Batch) → b ≡ c → OutFits j p c → OutFits j p b
same_fits j p b c e h = rw e h
