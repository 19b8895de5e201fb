-- The two bytes of a slot's split.
use Rattle.std.specs.Prelude.{◌≡◌, [], ◌∷◌, ℕ, Option, is_some, unwrap_or}
use Rattle.numbers.specs.Opt.{option_of}
use Rattle.layout.specs.Numbers.{mark}
use Rattle.layout.specs.Maybe.{maybe_back}
use Rattle.tables.specs.Decode.{active_split}

pub active_back : (x : Option ℕ) → active_split (mark (is_some x) ∷ unwrap_or x 0 ∷ []) ≡ option_of x
unfolding active_split
active_back x = maybe_back x
