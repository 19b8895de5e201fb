-- The code's Option as the rules' Option, and a Result that hands back the value either way.
use Rattle.std.specs.Prelude.{Option, None, Some, Result, Ok, Err}
use Rattle.std.proofs.Math.Option as maybe

abbrev pub option_of : {A : Type 0} → Option A → maybe.Option A
option_of None = maybe.none
option_of (Some x) = maybe.some x

-- likewise, each value read by f
abbrev pub option_by : {A B : Type 0} → (A → B) → Option A → maybe.Option B
option_by f None = maybe.none
option_by f (Some x) = maybe.some (f x)

-- what a Result holds, done or refused
abbrev pub either_of : {A : Type 0} → Result A A → A
either_of (Ok x) = x
either_of (Err x) = x
