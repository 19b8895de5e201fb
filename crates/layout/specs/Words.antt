-- A number of 32 bits is four bytes.
use Rattle.std.specs.Prelude.{◌≡◌, ℕ, ◌<◌, ◌^◌}
use Rattle.std.specs.Int.{w32, to_le_bytes}
use Rattle.std.proofs.Common.{arith}
use Rattle.std.proofs.lemmas.Nat.{from_le_bytes-to_le_bytes_4}
use Rattle.layout.specs.Numbers.{word}

pub word_back : (v : ℕ) → v < 2 ^ 32 → word (to_le_bytes w32 v) ≡ v
word_back v fits = omega (arith, from_le_bytes-to_le_bytes_4 v fits)
