-- The ports at a pipeline's inlets, one by one.
use Rattle.std.specs.Prelude.{◌≡◌, Bool, true, ◌&&◌, List, ℕ, ◌+◌, ◌≤◌, ◌<◌, length, drop}
use Rattle.std.proofs.Common.{ap, ◌∙◌, add-one, drop_of_length-le}
use Rattle.rules.specs.Table.{get}
use Rattle.rules.specs.Machine.{Machine, port_at}
use Rattle.rules.specs.Check.{reads_port, inlets_live}
use Rattle.numbers.specs.Loops.{drop_next}

-- the port of inlet i is in use and names this pipeline and inlet
abbrev pub inlet_live : Machine → ℕ → List ℕ → ℕ → Bool
inlet_live m p l i = (port_at m (get 0 l i)).there && reads_port (port_at m (get 0 l i)).reader p i

-- one inlet, then the others
pub live_first : (m : Machine) (p : ℕ) (l : List ℕ) (i : ℕ) → i < length l →
    inlets_live m p i (drop i l) ≡ (inlet_live m p l i && inlets_live m p (i + 1) (drop (i + 1) l))
unfolding inlets_live
live_first m p l i h = ap (inlets_live m p i) (drop_next 0 l i h) ∙ rw (add-one i)

pub live_none : (m : Machine) (p : ℕ) (l : List ℕ) (i : ℕ) → length l ≤ i → true ≡ inlets_live m p i (drop i l)
unfolding inlets_live
live_none m p l i h = rw (drop_of_length-le l {i = i} h)
