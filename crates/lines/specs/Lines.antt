-- The line of each answer.
use Rattle.std.specs.Prelude.{List, ℕ, Ok, Err}
use Rattle.std.proofs.Math.Option.{some}
use Rattle.rules.specs.Scan as rules
use Rattle.rules.specs.Session.{ended, no_line, refusal_line, open_line, turn_line}
use Rattle.batches.specs.Batch.{batch_of}
use Rattle.turn.specs.Told.{ToldVerdict, says}
use Rattle.turn.specs.declared.Told.{Told}
use Rattle.turn.specs.declared.Turn.{Turn}
use Rattle.turn.specs.declared.Turn.TheVariants as turn

-- the answer of a step or a delivery
abbrev pub turn_text : Turn Told → List ℕ
turn_text (turn.Read r g) = ended (turn_line (rules.read r g))
turn_text (turn.Output s b) = ended (turn_line (rules.output s (batch_of b)))
turn_text turn.Waiting = ended (turn_line rules.waits)
turn_text turn.Done = ended (turn_line rules.done)
turn_text (turn.Refused t) = ended (no_line t.number)

-- a refusal for a run at fault
abbrev pub run_text : ℕ → ℕ → List ℕ
run_text n i = ended (refusal_line (record { number = n; index = some i }))

-- "It prints `open`, or `no` and the number of a refused opening", with the index of a run at fault
abbrev pub opened_text : ToldVerdict → List ℕ
opened_text (Ok u) = ended open_line
opened_text (Err t) = ended (refusal_line (says t))
