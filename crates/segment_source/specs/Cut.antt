-- The cutting stage.
use Rattle.std.specs.Prelude.{◌≡◌, suc, if◌then◌else◌}
use Rattle.rules.specs.Operators.{emit}
use Rattle.rules.specs.Drive.{is_end}
use Rattle.operator.specs.declared.answer.Step.{Step}
use Rattle.operator.specs.Answer.{step_of}
use Rattle.segment_source.specs.declared.pieces.Pieces.{Pieces}
use Rattle.segment_source.specs.declared.cut.Cut.{Cut}
use Rattle.segment_source.specs.Pieces.{pieces_in}

-- the next run, and the stage behind it
pub record Cuts (c : Cut) (t : Pieces) (x : Step) (r : Cut) : Type 0 where
  pub given : step_of x ≡ emit (pieces_in t) c.at
  pub cut : r.at ≡ (if is_end (emit (pieces_in t) c.at) then c.at else suc c.at)
