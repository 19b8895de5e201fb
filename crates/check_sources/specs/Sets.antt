-- A set of inlets, number by number.
use Rattle.std.specs.Prelude.{◌≡◌, Bool, true, ◌&&◌, not, List, ℕ, ◌-◌, ◌<◌, get_or, ltb}
use Rattle.rules.specs.Table.{has}
use Rattle.rules.specs.Check.{set_ok}
use Rattle.numbers.specs.Newest.{newest}
use Rattle.numbers.specs.Newest.{newest_some, newest_none}

-- a number is below n, and none of those before it
abbrev pub number_ok : ℕ → List ℕ → ℕ → Bool
number_ok n l k = ltb (get_or l k 0) n && not (has (get_or l k 0) (newest l k))

-- the newest number, then the others
pub set_first : (n : ℕ) (l : List ℕ) (k : ℕ) → 0 < k → set_ok n (newest l k) ≡ (number_ok n l (k - 1) && set_ok n (newest l (k - 1)))
unfolding set_ok
set_first n l k h = rw (newest_some l k h)

-- none left
pub set_none : (n : ℕ) (l : List ℕ) (k : ℕ) → k ≡ 0 → true ≡ set_ok n (newest l k)
unfolding set_ok
set_none n l k e = rw (newest_none l k e)
