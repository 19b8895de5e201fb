-- What the call that was read says, in the terms of the rules.
use Rattle.std.specs.Prelude.{List, [], ◌∷◌, ℕ, ◌≤◌, ◌<◌, length, drop, IfSome, Some, None, if◌then◌else◌}
use Rattle.std.specs.Prelude as code
use Rattle.std.proofs.Math.Option.{Option, none, some}
use Rattle.rules.specs.Job.{is_mark}
use Rattle.rules.specs.Session as rule
use Rattle.call_records.specs.declared.calls.Call.{Call}
use Rattle.call_records.specs.declared.calls.Call.TheVariants.{Step, Deliver}

-- the rules' call
abbrev pub call_of : Call → rule.Call
call_of Step = rule.ST
call_of (Deliver r n) = rule.DL r n

-- the call that was read, and the bytes behind it
abbrev pub called_of : List ℕ → code.Option (Call × ℕ) → Option (rule.Call × List ℕ)
called_of xs None = none
called_of xs (Some c) = some (call_of c.0, drop c.1 xs)

-- where a call ends: behind its place, and within the bytes
abbrev pub CallEnds : List ℕ → ℕ → code.Option (Call × ℕ) → Type 0
CallEnds xs at r = IfSome r (λ c. (at < c.1) × (c.1 ≤ length xs))

-- how many bytes tell what call it is
abbrev pub wanted_at : List ℕ → ℕ
wanted_at [] = 2
wanted_at (a ∷ []) = 2
wanted_at (a ∷ b ∷ rest) = if is_mark a b (68, 76) then 10 else 2
