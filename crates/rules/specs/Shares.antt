-- Document 01, "Ports and shares": claims.
use Rattle.std.specs.Prelude.{Bool, true, false, ◌&&◌, not, List, [], ◌∷◌, map, reverse, ℕ, ◌+◌, length, eqb, leb}
use Rattle.std.proofs.Math.Option.{Option, none, some}
use Rattle.rules.specs.Table.{get, put, filter, find}
use Rattle.rules.specs.Plan.{leaves_of, first_leaf, pairs}
use Rattle.rules.specs.Operators.{segment}
use Rattle.rules.specs.Machine.{Machine, Reader, nobody, pipe, Port, share_port, slot_places, port_at, set_port, set_queue, with_unbuilt, fault_if}
use Rattle.rules.specs.Ports.{is_nobody}
use Rattle.rules.specs.Pipelines.{lay, add}

-- a port that waits for its claim
abbrev pub is_waiting : Machine → ℕ → Bool
is_waiting m x = (port_at m x).there && is_nobody (port_at m x).reader

-- every later claim takes the newest port still unclaimed for its split: that of the last leaf
abbrev pub newest_waiting : Machine → ℕ → ℕ → Option ℕ
newest_waiting m l s = find (is_waiting m) (map (λ i. share_port i s) (reverse (leaves_of m.job l)))

-- "a port for each claimant, a pair of a reach and an unfinished split that overlaps it", by leaf, then split
abbrev pub claimants : Machine → ℕ → List (ℕ × ℕ)
claimants m l = filter (λ (c : ℕ × ℕ). not (get false m.finished c.1)) (pairs m.job l)

abbrev pub port_of : ℕ × ℕ → ℕ
port_of c = share_port c.0 c.1

abbrev pub empty_port : Reader → Port
empty_port r = record { there = true; closed = false; changed = false; reader = r }

unfoldable pub make_ports : List ℕ → Machine → Machine
make_ports [] m = m
make_ports (x ∷ xs) m = make_ports xs (fault_if (port_at m x).there (set_queue x [] (set_port x (empty_port nobody) m)))

abbrev pub claimed : Port → ℕ → Port
claimed x p = record { there = x.there; closed = x.closed; changed = x.changed; reader = pipe p 0 }

-- the pipeline at p reads the port, if there is one
abbrev pub claim_port : ℕ → Option ℕ → Machine → Option ℕ × Machine
claim_port p none m = (none, m)
claim_port p (some x) m = (some x, set_port x (claimed (port_at m x) p) m)

-- the first port made for a split
abbrev pub first_for : ℕ → List (ℕ × ℕ) → Option ℕ
first_for s cs = elim (find (λ (c : ℕ × ℕ). eqb c.1 s) cs) [ none ↦ none | some c ↦ some (port_of c) ]

-- "The first claim makes one source of the whole segment with a port for each claimant …; with one claimant only, the leaf gets a source
-- of its own instead." The first claim takes the first port made for its split.
unfoldable pub build : ℕ → ℕ → ℕ → List (ℕ × ℕ) → Machine → Option ℕ × Machine
build p l s cs m =
    elim (leb (length cs) 1) [
      | true ↦ (none, m)
      | false ↦
          claim_port p (first_for s cs)
          (add (slot_places + l) (lay (slot_places + l) (segment false false 0) none [] (make_ports (map port_of cs) m)))
    ]

-- the pipeline at p, of leaf l and split s, claims a port of its segment; none: it has a source of its own
unfoldable pub claim : ℕ → ℕ → ℕ → Machine → Option ℕ × Machine
claim p l s m =
    let g = first_leaf m.job l in
    elim (newest_waiting m l s) [
      | some x ↦ claim_port p (some x) m
      | none ↦
          elim (get false m.unbuilt g) [
            | false ↦ (none, m)
            | true ↦ build p l s (claimants m l) (with_unbuilt (put false m.unbuilt g false) m)
          ]
    ]
