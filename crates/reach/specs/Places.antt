-- The split of a place, and its runs with their leaf.
use Rattle.std.specs.Prelude.{None, Option, Some, unwrap_or}
use Rattle.std.specs.Prelude.{ℕ, ◌≤◌, ◌<◌, ◌≡◌, refl, List, [], ◌∷◌, map, take}
use Rattle.std.proofs.Math.Option.{get_or}
use Rattle.std.proofs.Common.{lt-ltb, le-ltb}
use Rattle.rules.specs.Job as rule
use Rattle.rules.specs.Plan.{Piece, node_of, pieces_of, kept}
use Rattle.rules.specs.Machine.{Machine, node_at_place, split_at, segment_at, pieces_at}
use Rattle.jobs.specs.Job.{front, run_of}
use Rattle.numbers.specs.Opt.{option_of}
use Rattle.kept.specs.declared.Kept.{Kept}
use Rattle.kept.specs.Kept as held

-- the split of a slot, as a number
pub number_is : (x : Option ℕ) → unwrap_or x 0 ≡ get_or (option_of x) 0
number_is None = refl
number_is (Some n) = refl

-- one run of the rows of a node
abbrev pub all_rows : ℕ → List rule.Run
all_rows n = record { start = 0; size = n } ∷ []

-- a shared place: the whole segment
pub whole_is : (m : Machine) (p g n : ℕ) (l : List Piece) → 72 ≤ p → g ≡ segment_at m p → n ≡ (node_of m.job (node_at_place p)).rows
    → l ≡ pieces_of (node_at_place p) g (all_rows n) → l ≡ pieces_at m p
whole_is m p g n l h d e f = rw (le-ltb p 72 h, f, d, e)

-- a place in a slot: what its node keeps
pub kept_is : (m : Machine) (p g t : ℕ) (k : Kept) → p < 72 → g ≡ segment_at m p → t ≡ split_at m p → held.runs_of k ≡ kept m.job (node_at_place p) t
    → pieces_of (node_at_place p) g (map run_of (take k.count k.runs)) ≡ pieces_at m p
unfolding front
kept_is m p g t k h d e f = rw (lt-ltb p 72 h, f, d, e)
