-- Numbers and flags in bytes.
use Rattle.std.specs.Prelude.{ℕ, ◌+◌, ◌*◌, Bool, true, false, not, ◌≡◌, refl, List, [], ◌∷◌, eqb, leb, length, get_or, if◌then◌else◌}
use Rattle.std.specs.Int.{from_bool}
use Rattle.std.proofs.Math.Option.{Option, none, some}
use Rattle.numbers.specs.Newest.{newest}

abbrev pub byte : List ℕ → ℕ → ℕ
byte r k = get_or r k 0

-- 0 is no, any other byte yes
abbrev pub flag : ℕ → Bool
flag b = not (eqb b 0)

-- the byte of a flag
abbrev pub mark : Bool → ℕ
mark = from_bool

pub flag_mark : (x : Bool) → flag (mark x) ≡ x
flag_mark true = refl
flag_mark false = refl

-- a flag, and the number that counts where it is set
abbrev pub option : ℕ → ℕ → Option ℕ
option b n = if flag b then some n else none

-- two bytes, low byte first
abbrev pub half : List ℕ → ℕ
half r = byte r 0 + 256 * byte r 1

-- four bytes, low byte first
abbrev pub word : List ℕ → ℕ
word r = byte r 0 + 256 * (byte r 1 + 256 * (byte r 2 + 256 * byte r 3))

-- A stack of small numbers: how many, then the oldest first. Its table has as many places as there are bytes behind the count. A count
-- past that reads as one number that no check accepts.
unfoldable pub stack : List ℕ → List ℕ
stack [] = []
stack (c ∷ xs) = if leb c (length xs) then newest xs c else 255 ∷ []
