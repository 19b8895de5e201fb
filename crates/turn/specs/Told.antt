-- A refusal as it is told, and an answer that may be one.
use Rattle.std.specs.Prelude.{◌≡◌, refl, ℕ, Option, None, Some, Result, Ok, Err}
use Rattle.std.proofs.Math.Option as maybe
use Rattle.rules.specs.Job as rule
use Rattle.numbers.specs.Opt.{option_of}
use Rattle.jobs.specs.Refusal.{Verdict, refusal_of}
use Rattle.jobs.specs.declared.refusal.Refusal.{Refusal}
use Rattle.turn.specs.declared.Told.{Told}
use Rattle.turn.specs.declared.Turn.{Turn}
use Rattle.turn.specs.declared.Turn.TheVariants as turn

-- an index in the code's terms
abbrev pub index_in : maybe.Option ℕ → Option ℕ
index_in maybe.none = None
index_in (maybe.some i) = Some i

-- a refusal of the rules as it is told
abbrev pub telling : rule.Refusal → Told
telling r = record { number = r.number; run = index_in r.index }

-- and one of the code
abbrev pub told_of : Refusal → Told
told_of r = telling (refusal_of r)

-- what is told, in the terms of the rules
abbrev pub says : Told → rule.Refusal
says t = record { number = t.number; index = option_of t.run }

-- the same refusal, whatever it is
pub says_telling : (r : rule.Refusal) → says (telling r) ≡ r
says_telling r = by r.number r.index
  where
    by : (n : ℕ) (o : maybe.Option ℕ) → let q : rule.Refusal = record { number = n; index = o } in says (telling q) ≡ q
    by n maybe.none = refl
    by n (maybe.some i) = refl

-- an opening's answer as it is told
abbrev pub ToldVerdict : Type 0
ToldVerdict = Result (Unit {0}) Told

abbrev pub verdict_told : Verdict → ToldVerdict
verdict_told (Ok u) = Ok u
verdict_told (Err r) = Err (told_of r)

-- a turn as it is told
abbrev pub turn_told : Turn Refusal → Turn Told
turn_told (turn.Read r g) = turn.Read r g
turn_told (turn.Output s b) = turn.Output s b
turn_told turn.Waiting = turn.Waiting
turn_told turn.Done = turn.Done
turn_told (turn.Refused r) = turn.Refused (told_of r)

-- what a step or a delivery answers
abbrev pub Answer : Type 0
Answer = Turn Refusal
