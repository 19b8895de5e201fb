-- Document 01, "Ports and shares": what is done to the ports of a scan.
use Rattle.std.specs.Prelude.{Bool, true, false, ◌&&◌, ◌||◌, not, List, [], ◌∷◌, ◌++◌, ℕ, eqb, if◌then◌else◌}
use Rattle.rules.specs.Table.{is_empty}
use Rattle.rules.specs.Port.{Batch}
use Rattle.rules.specs.Machine.{Machine, Reader, nobody, slot, pipe, Port, no_port, is_share_port, port_at, queue_at, set_port, set_queue, outlets, fault_if}

abbrev pub marked : Port → Port
marked x = record { there = x.there; closed = x.closed; changed = true; reader = x.reader }

-- "Closing marks once."
abbrev pub closed_now : Port → Port
closed_now x = record { there = x.there; closed = true; changed = x.changed || not x.closed; reader = x.reader }

-- a shared port holds one batch, the whole segment
abbrev pub has_place : ℕ → List Batch → Bool
has_place x q = is_empty q || not (is_share_port x)

abbrev pub push_to : Batch → ℕ → Machine → Machine
push_to b x m =
    let q = queue_at m x in
    fault_if (not (has_place x q)) (set_queue x (if has_place x q then q ++ b ∷ [] else q) (set_port x (marked (port_at m x)) m))

unfoldable pub push_each : Batch → List ℕ → Machine → Machine
push_each b [] m = m
push_each b (x ∷ xs) m = push_each b xs (push_to b x m)

-- "An empty batch is neither queued nor marked."
abbrev pub push_out : ℕ → Batch → Machine → Machine
push_out p b m = elim (eqb b.rows 0) [ true ↦ m | false ↦ push_each b (outlets m p) m ]

abbrev pub is_nobody : Reader → Bool
is_nobody nobody = true
is_nobody slot = false
is_nobody (pipe p i) = false

-- the port is not in use any more
abbrev pub free_port : ℕ → Machine → Machine
free_port x m = set_queue x [] (set_port x no_port m)

unfoldable pub free_each : List ℕ → Machine → Machine
free_each [] m = m
free_each (x ∷ xs) m = free_each xs (free_port x m)

-- "A port is freed when closed and its reader has gone"; a shared port may wait for its reader
abbrev pub close_to : ℕ → Machine → Machine
close_to x m =
    elim (is_nobody (port_at m x).reader && not (is_share_port x)) [ true ↦ free_port x m | false ↦ set_port x (closed_now (port_at m x)) m ]

unfoldable pub close_each : List ℕ → Machine → Machine
close_each [] m = m
close_each (x ∷ xs) m = close_each xs (close_to x m)

abbrev pub readerless : Port → Port
readerless x = record { there = x.there; closed = x.closed; changed = x.changed; reader = nobody }

-- the reader of a port goes: what is queued is dropped
abbrev pub drop_inlet : ℕ → Machine → Machine
drop_inlet x m =
    elim ((port_at m x).closed || is_share_port x) [ true ↦ free_port x m | false ↦ set_queue x [] (set_port x (readerless (port_at m x)) m) ]

unfoldable pub drop_each : List ℕ → Machine → Machine
drop_each [] m = m
drop_each (x ∷ xs) m = drop_each xs (drop_inlet x m)
