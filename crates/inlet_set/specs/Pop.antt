-- The newest of a set, and the set without it.
use Rattle.std.specs.Prelude.{◌≡◌, ℕ, drop, Option}
use Rattle.std.proofs.Math.ListN.{get_elem?}
use Rattle.numbers.specs.Opt.{option_of}
use Rattle.inlet_set.specs.declared.set.InletSet.{InletSet}
use Rattle.inlet_set.specs.InletSet.{set_of}

pub record Pop (s : InletSet) (newest : Option ℕ) (rest : InletSet) : Type 0 where
  pub inlet : option_of newest ≡ get_elem? (set_of s) 0
  pub set : set_of rest ≡ drop 1 (set_of s)
