-- A test as a number.
use Rattle.std.specs.Prelude.{◌≡◌, refl, Bool, true, false, ℕ, ◌≤◌, if◌then◌else◌}
use Rattle.std.proofs.Common.{arith}
use mir.Val.{bool_byte}

abbrev pub bit : Bool → ℕ
bit true = 1
bit false = 0

pub bit_most : (b : Bool) → bit b ≤ 1
bit_most true = omega arith
bit_most false = omega arith

pub bit_if : (b : Bool) → bit b ≡ (if b then 1 else 0)
bit_if true = refl
bit_if false = refl

-- `usize::from` of a test
pub bit_byte : (b : Bool) → bool_byte b ≡ bit b
bit_byte true = refl
bit_byte false = refl
