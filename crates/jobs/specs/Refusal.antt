-- A refusal, in the terms of the rules, and an answer that may be one.
use Rattle.std.specs.Prelude.{◌≡◌, refl, ℕ, eqb, if◌then◌else◌, Result, Ok, Err}
use Rattle.std.proofs.Common.{ap}
use Rattle.std.proofs.Math.Option.{Option, none, some}
use Rattle.rules.specs.Job as rule
use Rattle.jobs.specs.declared.refusal.Refusal.{Refusal}
use Rattle.jobs.specs.declared.refusal.Refusal.TheVariants.{StateTooShort, Malformed, PastLimit, NotATree, Unequal, TwoRowCounts, TooManyRows, BadRange, NotInFlight, WrongRows, OutOfOrder, Stuck, Failed, EmptyRun, RunBeforeEnd, RunPastSplit}

-- the paper's number of each case
abbrev pub number_of : Refusal → ℕ
number_of StateTooShort = 1
number_of Malformed = 2
number_of PastLimit = 3
number_of NotATree = 4
number_of Unequal = 5
number_of TwoRowCounts = 6
number_of TooManyRows = 7
number_of BadRange = 8
number_of NotInFlight = 10
number_of WrongRows = 11
number_of OutOfOrder = 12
number_of Stuck = 13
number_of Failed = 14
number_of (EmptyRun i) = 17
number_of (RunBeforeEnd i) = 18
number_of (RunPastSplit i) = 19

-- the index of the run at fault
abbrev pub index_of : Refusal → Option ℕ
index_of StateTooShort = none
index_of Malformed = none
index_of PastLimit = none
index_of NotATree = none
index_of Unequal = none
index_of TwoRowCounts = none
index_of TooManyRows = none
index_of BadRange = none
index_of NotInFlight = none
index_of WrongRows = none
index_of OutOfOrder = none
index_of Stuck = none
index_of Failed = none
index_of (EmptyRun i) = some i
index_of (RunBeforeEnd i) = some i
index_of (RunPastSplit i) = some i

abbrev pub refusal_of : Refusal → rule.Refusal
refusal_of r = record { number = number_of r; index = index_of r }

-- an answer that may be a refusal, by what its value stands for
abbrev pub outcome_by : {A B : Type 0} → (A → B) → Result A Refusal → rule.Outcome B
outcome_by f (Ok x) = rule.accepted (f x)
outcome_by f (Err r) = rule.refused_by (refusal_of r)

-- a verdict is a Result with no value
abbrev pub Verdict : Type 0
Verdict = Result (Unit {0}) Refusal

-- the refusal, if it is one
abbrev pub fault_of : Verdict → Option rule.Refusal
fault_of (Ok u) = none
fault_of (Err r) = some (refusal_of r)

-- the refusal, or a value
abbrev pub judged : {A : Type 0} → Verdict → A → rule.Outcome A
judged v x = outcome_by (λ u. x) v

-- and back: the case of a number alone, and that of a number with a run's index; a number that no case has is taken for the last of them
abbrev pub lone : ℕ → Refusal
lone n =
    if eqb n 1 then StateTooShort
    else if eqb n 2 then Malformed
    else if eqb n 3 then PastLimit
    else if eqb n 4 then NotATree
    else if eqb n 5 then Unequal
    else if eqb n 6 then TwoRowCounts
    else if eqb n 7 then TooManyRows
    else if eqb n 8 then BadRange
    else if eqb n 10 then NotInFlight
    else if eqb n 11 then WrongRows
    else if eqb n 12 then OutOfOrder
    else if eqb n 13 then Stuck
    else Failed

abbrev pub at_run : ℕ → ℕ → Refusal
at_run n i = if eqb n 17 then EmptyRun i else if eqb n 18 then RunBeforeEnd i else RunPastSplit i

abbrev pub refusing : rule.Refusal → Refusal
refusing r = elim r.index [ none ↦ lone r.number | some i ↦ at_run r.number i ]

abbrev pub verdict_of : {A : Type 0} → rule.Outcome A → Verdict
verdict_of (rule.refused_by r) = Err (refusing r)
verdict_of (rule.accepted x) = Ok tt

pub refusing_of : (r : Refusal) → refusing (refusal_of r) ≡ r
refusing_of StateTooShort = refl
refusing_of Malformed = refl
refusing_of PastLimit = refl
refusing_of NotATree = refl
refusing_of Unequal = refl
refusing_of TwoRowCounts = refl
refusing_of TooManyRows = refl
refusing_of BadRange = refl
refusing_of NotInFlight = refl
refusing_of WrongRows = refl
refusing_of OutOfOrder = refl
refusing_of Stuck = refl
refusing_of Failed = refl
refusing_of (EmptyRun i) = refl
refusing_of (RunBeforeEnd i) = refl
refusing_of (RunPastSplit i) = refl

pub verdict_judged : {A : Type 0} (v : Verdict) (x : A) → verdict_of (judged v x) ≡ v
verdict_judged (Ok u) x = refl
verdict_judged (Err r) x = ap (λ (q : Refusal). Err q) (refusing_of r)
