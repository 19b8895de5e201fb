-- What the functions for C and Rust promise: what those of `scheduler` do, with the answer in numbers.
use Rattle.std.specs.Prelude.{◌≡◌, false, List, ℕ, ◌≤◌, ◌<◌, length}
use Rattle.turn.specs.Told.{Answer as Turn, turn_told}
use Rattle.rules.specs.Machine.{Machine}
use Rattle.rules.specs.Scan as rule
use Rattle.scheduler.specs.Answers.{Opens, Turns}
use Rattle.turn_numbers.specs.Numbers.{of_run, verdict_by, turn_number, written}

-- an opening that answers r, 0 or the number of a refusal, and leaves v in the place of a run's index, where u was
pub record OpensBy (job s : List ℕ) (u r : ℕ) (t : List ℕ) (v : ℕ) : Type 0 where
  -- it opens as the number and the place say
  pub opens : Opens job s (verdict_by r v) t
  -- the place is written by 17 to 19 alone
  pub place : of_run r ≡ false → v ≡ u

-- the answer of a call on s that leaves t, in numbers: r, and v where u was; r is 0 only for a turn
pub record Numbered (rules : Machine → rule.Answer rule.Turn) (s u : List ℕ) (r : ℕ) (t v : List ℕ) : Type 0 where
  pub answer : Turn
  pub turns : Turns rules s answer t
  pub refusal : r ≡ turn_number (turn_told answer)
  pub turn : v ≡ written (turn_told answer) u

-- a step or a delivery: 255 where there is no room for a turn's twelve numbers, and nothing is changed
pub record TurnsBy (rules : Machine → rule.Answer rule.Turn) (s u : List ℕ) (r : ℕ) (t v : List ℕ) : Type 0 where
  pub room : length u < 12 → (r ≡ 255) × (t ≡ s) × (v ≡ u)
  pub is : 12 ≤ length u → Numbered rules s u r t v

abbrev pub StepsBy : List ℕ → List ℕ → ℕ → List ℕ → List ℕ → Type 0
StepsBy s u r t v = TurnsBy rule.step s u r t v

abbrev pub DeliversBy : ℕ → ℕ → List ℕ → List ℕ → ℕ → List ℕ → List ℕ → Type 0
DeliversBy read rows s u r t v = TurnsBy (rule.deliver read rows) s u r t v
