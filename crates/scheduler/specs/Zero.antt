-- "An all-zero state gives 12.": by a step and by any delivery, which leave it as it was.
use Rattle.std.specs.Prelude.{◌≡◌, refl, false, List, ℕ, length}
use Rattle.std.proofs.Common.{ap, ◌∙◌, arith, length-take}
use Rattle.std.proofs.lemmas.List.{length-replicate}
use Rattle.rules.specs.Machine.{Machine}
use Rattle.rules.specs.Check.{check}
use Rattle.rules.specs.Scan as rule
use Rattle.laws.specs.Table.{clash}
use Rattle.laws.specs.Stored.{no_slots}
use Rattle.tables.specs.View.{view, job_from, state_len, Published}
use Rattle.tables.specs.Lent.{fault_none}
use Rattle.table_blank.specs.Zeros.{cut_zeros}
use Rattle.turn.specs.Told.{Answer as Turn}
use Rattle.turn.specs.declared.Turn.TheVariants as turn
use Rattle.jobs.specs.Refusal.{number_of}
use Rattle.scheduler.specs.Answers.{AllZero, turn_of, RefusedBy, Turns, Steps, Delivers}
use Rattle.scheduler.specs.Calls.{step_not, deliver_not, no_machine}

module _ (s : List ℕ) (z : AllZero s) where
  long : Published s
  long = omega (arith, ap length z, length-take state_len s, length-replicate {A = ℕ} state_len 0)

  -- such a state has no slots
  out_of_order : check (view s) ≡ false
  unfolding view job_from
  out_of_order = no_slots (view s) (rw (cut_zeros state_len s z 0 3 (omega arith) (omega arith)) refl)

turn_is : (x : Turn) (m n : Machine) → turn_of x m ≡ rule.refuses 12 n → RefusedBy x 12
turn_is (turn.Read r g) m n e = clash (cc)
turn_is (turn.Output k b) m n e = clash (cc)
turn_is turn.Waiting m n e = clash (cc)
turn_is turn.Done m n e = clash (cc)
turn_is (turn.Refused q) m n e = let d : number_of q ≡ 12 = cc in (q, refl, d)

-- by what the rules answer
zero_turns : (rules : Machine → rule.Answer rule.Turn) (s t : List ℕ) (r : Turn) → rules (view s) ≡ rule.refuses 12 (view s) → AllZero s → Turns rules s r t
    → RefusedBy r 12 × (t ≡ s)
zero_turns rules s t r f z h =
    let k = fault_none s (long s z) (no_machine s z) in
    let e = turn_is r (view t) (view s) (h.is k ∙ f) in
    (e, h.kept e.0 e.1 (omega (arith, e.2)))

pub zero_step : (s t : List ℕ) (r : Turn) → AllZero s → Steps s r t → RefusedBy r 12 × (t ≡ s)
zero_step s t r z = zero_turns rule.step s t r (step_not (view s) (out_of_order s z)) z

pub zero_deliver : (read rows : ℕ) (s t : List ℕ) (r : Turn) → AllZero s → Delivers read rows s r t → RefusedBy r 12 × (t ≡ s)
zero_deliver read rows s t r z = zero_turns (rule.deliver read rows) s t r (deliver_not read rows (view s) (out_of_order s z)) z
