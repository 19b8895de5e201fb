-- A number joins a set.
use Rattle.std.specs.Prelude.{◌≡◌, Bool, ◌&&◌, ◌||◌, List, ℕ, length, ltb, if◌then◌else◌}
use Rattle.rules.specs.Table.{has}
use Rattle.rules.specs.InletSet as rules
use Rattle.inlet_set.specs.declared.set.InletSet.{InletSet}
use Rattle.inlet_set.specs.InletSet.{set_of}

-- an inlet's number, that is there or has a place
abbrev pub accepts : ℕ → List ℕ → Bool
accepts i s = ltb i 23 && (has i s || ltb (length s) 23)

-- whether the number was accepted, and the set with it; as it was, where not
pub record Insert (i : ℕ) (s : InletSet) (accepted : Bool) (r : InletSet) : Type 0 where
  pub ok : accepted ≡ accepts i (set_of s)
  pub set : set_of r ≡ (if accepts i (set_of s) then rules.insert i (set_of s) else set_of s)
