-- The rules' value for each answer.
use Rattle.std.specs.Prelude.{ℕ}
use Rattle.rules.specs.Operators as rules
use Rattle.batches.specs.Batch.{batch_of}
use Rattle.operator.specs.declared.answer.SourceBlocked.{SourceBlocked}
use Rattle.operator.specs.declared.answer.SourceBlocked.TheVariants.{Io, Inlet}
use Rattle.operator.specs.declared.answer.SourceReady.{SourceReady}
use Rattle.operator.specs.declared.answer.SourceReady.TheVariants.{Ready, Blocked}
use Rattle.operator.specs.declared.answer.Step.{Step}
use Rattle.operator.specs.declared.answer.Step.TheVariants.{End, More, Final}

abbrev pub blocked_of : SourceBlocked → rules.Blocked
blocked_of Io = rules.io
blocked_of (Inlet i) = rules.inlet i

abbrev pub ready_of : SourceReady → rules.SourceReady
ready_of Ready = rules.go
ready_of (Blocked b) = rules.stays (blocked_of b)

abbrev pub step_of : Step → rules.Step
step_of End = rules.end
step_of (More b) = rules.more (batch_of b)
step_of (Final b) = rules.final (batch_of b)

-- how many columns its batch says it has
abbrev pub width_of : Step → ℕ
width_of End = 0
width_of (More b) = b.width
width_of (Final b) = b.width
