-- An enum as a tag and an argument, and back.
use Rattle.std.specs.Prelude.{◌≡◌, refl, ◌≢◌, [], ◌∷◌, ℕ}
use Rattle.std.proofs.Common.{ne_eqb}
use Rattle.operator.specs.declared.pipeline.State.{State}
use Rattle.operator.specs.declared.pipeline.State.TheVariants.{Runnable, Blocked, Outlet}
use Rattle.operator.specs.declared.answer.SourceBlocked.TheVariants.{Io, Inlet}
use Rattle.operator.specs.declared.pipeline.Pipeline.{Pipeline}
use Rattle.operator.specs.Pipeline.{state_of, pipeline_of}
use Rattle.layout.specs.Numbers.{mark, flag_mark}
use Rattle.tables.specs.Decode.{state_from, pipeline}

abbrev pub state_tag : State → ℕ
state_tag Runnable = 0
state_tag (Blocked Io) = 1
state_tag (Blocked (Inlet i)) = 2
state_tag Outlet = 3

abbrev pub state_arg : State → ℕ
state_arg Runnable = 0
state_arg (Blocked Io) = 0
state_arg (Blocked (Inlet i)) = i
state_arg Outlet = 0

pub state_back : (x : State) → state_from (state_tag x) (state_arg x) ≡ state_of x
unfolding state_from
state_back Runnable = refl
state_back (Blocked Io) = refl
state_back (Blocked (Inlet i)) = refl
state_back Outlet = refl

-- a tag past the last one
pub state_else : (t i : ℕ) → t ≢ 0 → t ≢ 1 → t ≢ 2 → t ≢ 3 → state_of (Blocked (Inlet 255)) ≡ state_from t i
unfolding state_from
state_else t i a b c d = rw (ne_eqb t 0 a, ne_eqb t 1 b, ne_eqb t 2 c, ne_eqb t 3 d)

-- the five bytes of a pipeline
pub pipe_back : (x : Pipeline) → pipeline (mark x.live ∷ state_tag x.state ∷ state_arg x.state ∷ mark x.queued ∷ x.number ∷ []) ≡ pipeline_of x
unfolding pipeline
pipe_back x = simp (flag_mark, state_back)
