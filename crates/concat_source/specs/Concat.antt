-- What a concat says at an inlet, in the terms of the rules.
use Rattle.std.specs.Prelude.{ℕ}
use Rattle.rules.specs.Port as rows
use Rattle.rules.specs.Operators as rules

-- it waits for an inlet that is merely empty
abbrev pub at_inlet : rows.Seen → ℕ → rules.SourceReady
at_inlet rows.waiting i = rules.stays (rules.inlet i)
at_inlet rows.ready i = rules.go
at_inlet rows.ended i = rules.go
