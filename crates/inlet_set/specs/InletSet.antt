-- The rules' value for a set of inlets.
use Rattle.std.specs.Prelude.{List, ℕ, zero, suc, min, get_or, eqb, if◌then◌else◌}
use Rattle.std.proofs.Math.Option.{Option, none, some}
use Rattle.numbers.specs.Newest.{newest}
use Rattle.inlet_set.specs.declared.set.InletSet.{InletSet}

-- the first `len` numbers, the newest first
abbrev pub set_of : InletSet → List ℕ
set_of s = newest s.indices (min s.len 23)

-- the last place of i in the first n
unfoldable pub last_at : ℕ → List ℕ → ℕ → Option ℕ
last_at i l zero = none
last_at i l (suc n) = if eqb (get_or l n 0) i then some n else last_at i l n
