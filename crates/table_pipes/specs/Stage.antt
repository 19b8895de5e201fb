-- The rules' value for a pipeline's stage, and the six bytes that it takes.
use Rattle.std.specs.Prelude.{◌≡◌, [], ◌∷◌, is_some, unwrap_or}
use Rattle.rules.specs.Machine as rules
use Rattle.layout.specs.Numbers.{mark, flag_mark}
use Rattle.numbers.specs.Opt.{option_of}
use Rattle.layout.specs.Maybe.{maybe_back}
use Rattle.tables.specs.Decode.{stage}
use Rattle.table_pipes.specs.declared.stages.Stage.{Stage}

abbrev pub stage_of : Stage → rules.Stage
stage_of x = record { cut = option_of x.cut; continuing = x.continuing; finishing = option_of x.finishing; more = x.more }

-- the six bytes of a stage
pub stage_back : (x : Stage) → stage (mark (is_some x.cut) ∷ unwrap_or x.cut 0 ∷ mark x.continuing ∷ mark (is_some x.finishing)
    ∷ unwrap_or x.finishing 0 ∷ mark x.more ∷ []) ≡ stage_of x
unfolding stage
stage_back x = rw (maybe_back x.cut, maybe_back x.finishing, flag_mark x.continuing, flag_mark x.more)
