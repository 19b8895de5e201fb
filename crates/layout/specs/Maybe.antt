-- A number or nothing, and the two bytes that it takes.
use Rattle.std.specs.Prelude.{◌≡◌, refl, ℕ, Option, None, Some, is_some, unwrap_or}
use Rattle.numbers.specs.Opt.{option_of}
use Rattle.layout.specs.Numbers.{mark, option}

pub maybe_back : (x : Option ℕ) → option (mark (is_some x)) (unwrap_or x 0) ≡ option_of x
maybe_back None = refl
maybe_back (Some n) = refl
