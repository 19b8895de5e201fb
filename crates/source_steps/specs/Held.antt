-- Values out of a Result or an Option that are known to be done.
use Rattle.std.specs.Prelude.{◌≡◌, refl, true, Option, None, Some, unwrap_or, Result, Ok, Err}
use Rattle.std.specs.Result.{is_ok, result_unwrap_or}
use Rattle.std.proofs.Math.Option.{some}
use Rattle.laws.specs.Table.{clash}
use Rattle.numbers.specs.Opt.{option_by, either_of}

-- where it is done, the other value is not asked for
pub unwrapped : {A : Type 0} (r : Result A A) (d : A) → is_ok r ≡ true → result_unwrap_or r d ≡ either_of r
unwrapped (Ok x) d e = refl
unwrapped (Err x) d e = clash (cc)

pub unwrapped_by : {A B : Type 0} (f : A → B) (r : Option A) (d : A) (y : B) → option_by f r ≡ some y → f (unwrap_or r d) ≡ y
unwrapped_by f None d y e = clash (cc e)
unwrapped_by f (Some x) d y e = cc e
