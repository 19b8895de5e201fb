-- What a pack answers.
use Rattle.std.specs.Prelude.{List, if◌then◌else◌, Result, Ok, Err}
use Rattle.std.proofs.Math.Option.{Option, none, some}
use Rattle.rules.specs.InletSet.{InletSet}
use Rattle.rules.specs.Port as rows
use Rattle.rules.specs.Operators as rules
use Rattle.operator.specs.Answer.{ready_of}
use Rattle.operator.specs.declared.answer.SourceReady.{SourceReady}
use Rattle.pack_source.specs.declared.pack_ready.EndedApart.{EndedApart}

-- none: 'fields ended at different rows', refusal 14
abbrev pub test_of : Result SourceReady EndedApart → Option rules.SourceReady
test_of (Err e) = none
test_of (Ok r) = some (ready_of r)

abbrev pub tested : List rows.Seen → InletSet → Option rules.SourceReady
tested seen w = if rules.pack_fault seen w then none else some (rules.pack_ready w)
