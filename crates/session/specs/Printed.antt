-- What the rules print of an answer is its line.
use Rattle.std.specs.Prelude.{◌≡◌, refl}
use Rattle.rules.specs.Machine.{Machine}
use Rattle.rules.specs.Session.{printed}
use Rattle.turn.specs.Told.{Answer as Turn, turn_told}
use Rattle.turn.specs.declared.Turn.TheVariants as turn
use Rattle.scheduler.specs.Answers.{turn_of}
use Rattle.lines.specs.Lines.{turn_text}

pub turn_printed : (t : Turn) (m : Machine) → printed (turn_of t m) ≡ (turn_text (turn_told t), m)
turn_printed (turn.Read r g) m = refl
turn_printed (turn.Output s b) m = refl
turn_printed turn.Waiting m = refl
turn_printed turn.Done m = refl
turn_printed (turn.Refused q) m = refl
