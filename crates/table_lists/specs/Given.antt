-- A number that may be missing, as the rules have it.
use Rattle.std.specs.Prelude.{◌≡◌, refl, ℕ, Option, None, Some, is_some}
use Rattle.rules.specs.Table.{given}
use Rattle.numbers.specs.Opt.{option_of}

pub present_given : (x : Option ℕ) → is_some x ≡ given (option_of x)
unfolding given
present_given None = refl
present_given (Some n) = refl
