-- Laws of the numbers of answers.
use Rattle.std.specs.Prelude.{◌≡◌, refl, false, List, ℕ, ◌≤◌, ◌<◌, length, Ok, Err}
use Rattle.std.proofs.Common.{sym, subst, arith}
use Rattle.laws.specs.Table.{clash}
use Rattle.jobs.specs.Refusal.{Verdict, number_of}
use Rattle.jobs.specs.declared.refusal.Refusal.{Refusal}
use Rattle.jobs.specs.declared.refusal.Refusal.TheVariants.{
  StateTooShort,
  Malformed,
  PastLimit,
  NotATree,
  Unequal,
  TwoRowCounts,
  TooManyRows,
  BadRange,
  NotInFlight,
  WrongRows,
  OutOfOrder,
  Stuck,
  Failed,
  EmptyRun,
  RunBeforeEnd,
  RunPastSplit,
}
use Rattle.rules.specs.Machine.{Machine}
use Rattle.rules.specs.Scan as rule
use Rattle.turn.specs.Told.{Answer as Turn, verdict_told, turn_told}
use Rattle.scheduler.specs.Answers.{Opens, Turns}
use Rattle.turn_numbers.specs.Numbers.{verdict_number, run_written, of_run, verdict_by, turn_number, written}
use Rattle.ritsghule.specs.Promises.{OpensBy, TurnsBy}

-- An opening: the number and the place say what they were made of, as 17 to 19 alone have an index

says_refused : (q : Refusal) (u : ℕ) → verdict_by (verdict_number (verdict_told (Err q))) (run_written (verdict_told (Err q)) u) ≡ Err q
says_refused StateTooShort u = refl
says_refused Malformed u = refl
says_refused PastLimit u = refl
says_refused NotATree u = refl
says_refused Unequal u = refl
says_refused TwoRowCounts u = refl
says_refused TooManyRows u = refl
says_refused BadRange u = refl
says_refused NotInFlight u = refl
says_refused WrongRows u = refl
says_refused OutOfOrder u = refl
says_refused Stuck u = refl
says_refused Failed u = refl
says_refused (EmptyRun i) u = refl
says_refused (RunBeforeEnd i) u = refl
says_refused (RunPastSplit i) u = refl

says : (x : Verdict) (u : ℕ) → verdict_by (verdict_number (verdict_told x)) (run_written (verdict_told x) u) ≡ x
says (Ok y) u = refl
says (Err q) u = says_refused q u

stays_refused : (q : Refusal) (u : ℕ) → of_run (number_of q) ≡ false → run_written (verdict_told (Err q)) u ≡ u
stays_refused StateTooShort u h = refl
stays_refused Malformed u h = refl
stays_refused PastLimit u h = refl
stays_refused NotATree u h = refl
stays_refused Unequal u h = refl
stays_refused TwoRowCounts u h = refl
stays_refused TooManyRows u h = refl
stays_refused BadRange u h = refl
stays_refused NotInFlight u h = refl
stays_refused WrongRows u h = refl
stays_refused OutOfOrder u h = refl
stays_refused Stuck u h = refl
stays_refused Failed u h = refl
stays_refused (EmptyRun i) u h = clash (cc)
stays_refused (RunBeforeEnd i) u h = clash (cc)
stays_refused (RunPastSplit i) u h = clash (cc)

stays : (x : Verdict) (u : ℕ) → of_run (verdict_number (verdict_told x)) ≡ false → run_written (verdict_told x) u ≡ u
stays (Ok y) u h = refl
stays (Err q) u h = stays_refused q u h

pub opens_by : (job s t : List ℕ) (x : Verdict) (u r v : ℕ) → Opens job s x t → r ≡ verdict_number (verdict_told x) → v ≡ run_written (verdict_told x) u → OpensBy job s u r t v
opens_by job s t x u r v o e w =
    rw (e, w) (record { opens = subst (λ (y : Verdict). Opens job s y t) (sym (says x u)) o; place = stays x u })

-- A step or a delivery

module _ (rules : Machine → rule.Answer rule.Turn) where
  pub no_room : (s u : List ℕ) → length u < 12 → TurnsBy rules s u 255 s u
  no_room s u h = record { room = λ _. (refl, refl, refl); is = λ k. absurd (omega (arith, h, k)) }

  pub in_numbers : (s u t v : List ℕ) (a : Turn) (r : ℕ) → 12 ≤ length u → Turns rules s a t → r ≡ turn_number (turn_told a) → v ≡ written (turn_told a) u → TurnsBy rules s u r t v
  in_numbers s u t v a r h o e w = record { room = λ k. absurd (omega (arith, h, k)); is = λ _. record { answer = a; turns = o; refusal = e; turn = w } }
