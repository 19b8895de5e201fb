-- A pipeline's number, by where it comes from.
use Rattle.std.specs.Prelude.{◌≡◌, refl, true, ℕ, ◌+◌, ◌≤◌, ◌<◌, drop}
use mathlib.Core.List.{List, [], ◌∷◌}
use Rattle.std.proofs.Math.Option.{Option, none, some}
use Rattle.std.proofs.Common.{add-one, arith, le-leb}
use Rattle.std.proofs.Math.ListN.{get_elem?}
use Rattle.std.proofs.lemmas.Bool.{lt-leb}
use Rattle.rules.specs.Machine.{Machine, pipe_at, set_pipe, with_freed, with_made, fault_if}
use Rattle.rules.specs.Pipelines.{numbered, take_number}
use Rattle.laws.specs.Table.{clash}

-- all are in use
pub next_full : (p n : ℕ) (m : Machine) → n ≡ m.made → 96 ≤ n → fault_if true m ≡ take_number p [] m
unfolding take_number
next_full p n m e h = rw (le-leb 96 m.made (omega arith), take_number)

-- one more than were made
pub next_new : (p n : ℕ) (m : Machine) → n ≡ m.made → n < 96 → with_made (n + 1) (set_pipe p (numbered n (pipe_at m p)) m) ≡ take_number p [] m
unfolding take_number
next_new p n m e h = rw (lt-leb 96 m.made (omega arith), take_number, add-one n, e)

module _ (p : ℕ) (m : Machine) where
  -- none was freed
  pub take_new : (fs : List ℕ) (o : Option ℕ) → o ≡ get_elem? fs 0 → o ≡ none → take_number p [] m ≡ take_number p fs m
  take_new [] o e h = refl
  take_new (n ∷ ns) o e h = clash (cc)

  -- the newest freed
  pub take_freed : (n : ℕ) (fs : List ℕ) (o : Option ℕ) → o ≡ get_elem? fs 0 → o ≡ some n → with_freed (drop 1 fs) (set_pipe p (numbered n (pipe_at m p)) m)
      ≡ take_number p fs m
  unfolding take_number
  take_freed n [] o e h = clash (cc)
  take_freed n (x ∷ xs) o e h = let i : n ≡ x = cc in rw i
