-- The counts, and the stack at the end.
use Rattle.std.specs.Prelude.{◌≡◌, refl, false, not, ◌&&◌, ◌≢◌, List, ℕ, zero, suc, get_or, eqb}
use Rattle.std.proofs.Common.{eq-eqb, ne_eqb}
use Rattle.rules.specs.Table.{given}
use Rattle.rules.specs.Job.{Node, node_at}
use Rattle.jobs.specs.Job.{parent_of}
use Rattle.numbers.specs.Newest.{newest}
use Rattle.stored.specs.Walk.{ends}
use Rattle.std.proofs.Math.Option.{some}

-- none, or two and more
pub ends_other : (ns : List Node) (l : List ℕ) (n : ℕ) → n ≢ 1 → false ≡ ends ns (some (newest l n))
unfolding newest
ends_other ns l zero h = refl
ends_other ns l (suc zero) h = absurd (h refl)
ends_other ns l (suc (suc n)) h = refl

-- one
pub ends_one : (ns : List Node) (l : List ℕ) (y : Node) → y ≡ node_at ns (get_or l 0 0) →
    not (given y.parent) && eqb y.at 0 ≡ ends ns (some (newest l 1))
unfolding newest
ends_one ns l y g = rw g refl

-- one that has a parent
pub has_parent : (p a : ℕ) → p ≢ 255 → false ≡ not (given (parent_of p)) && eqb a 0
unfolding given
has_parent p a h = rw (ne_eqb p 255 h)

-- one that has none
pub no_parent : (p a : ℕ) → p ≡ 255 → eqb a 0 ≡ not (given (parent_of p)) && eqb a 0
unfolding given
no_parent p a h = rw (eq-eqb p 255 h)
