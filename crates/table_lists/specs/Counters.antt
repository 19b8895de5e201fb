-- What the counters of a lent state say, by their bytes.
use Rattle.std.specs.Prelude.{◌≡◌, refl, List, ℕ, get_or}
use Rattle.std.proofs.Common.{ap}
use Rattle.layout.specs.Numbers.{flag}
use Rattle.layout.specs.Stored.{first_at}
use Rattle.layout.specs.Cut.{cut}
use Rattle.tables.specs.View.{view}

pub made_loaded : (s : List ℕ) → (view s).made ≡ get_or s 3 0
unfolding view cut
made_loaded s = first_at s 3 1 refl

pub next_loaded : (s : List ℕ) → (view s).next ≡ get_or s 4 0
unfolding view cut
next_loaded s = first_at s 4 1 refl

pub fault_loaded : (s : List ℕ) → (view s).fault ≡ flag (get_or s 5 0)
unfolding view cut
fault_loaded s = ap flag (first_at s 5 1 refl)
