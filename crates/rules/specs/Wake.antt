-- Document 01, "Driver" and "Ports and shares": runnable pipelines and waking.
use Rattle.std.specs.Prelude.{Bool, true, false, ◌&&◌, not, List, [], ◌∷◌, ℕ, length, eqb, leb, if◌then◌else◌}
use Rattle.rules.specs.Table.{get, any, has}
use Rattle.rules.specs.InletSet.{insert}
use Rattle.rules.specs.Port.{is_full, capacity}
use Rattle.rules.specs.Operators.{io, inlet, State, runnable, blocked, outlet}
use Rattle.rules.specs.Machine.{Machine, Pipeline, Reader, nobody, slot, pipe, Port, places, slot_at_place, is_share_port, pipe_at, port_at, queue_at, outlets, live, set_pipe, set_port, set_changed, with_ready, with_dirty, fault_if}

abbrev pub with_state : State → Pipeline → Pipeline
with_state s x = record { live = x.live; state = s; queued = x.queued; number = x.number }

abbrev pub with_queued : Bool → Pipeline → Pipeline
with_queued q x = record { live = x.live; state = x.state; queued = q; number = x.number }

abbrev pub set_state : ℕ → State → Machine → Machine
set_state p s m = set_pipe p (with_state s (pipe_at m p)) m

-- on the ready stack
abbrev pub enqueue : ℕ → Machine → Machine
enqueue p m =
    elim (leb places (length m.ready)) [
      | true ↦ fault_if true m
      | false ↦ with_ready (p ∷ m.ready) (set_pipe p (with_queued true (pipe_at m p)) m)
    ]

-- "it is queued again": runnable, and once on the ready stack
unfoldable pub make_runnable : ℕ → Machine → Machine
make_runnable p m = let m' = set_state p runnable m in elim (pipe_at m p).queued [ true ↦ m' | false ↦ enqueue p m' ]

abbrev pub is_on : State → ℕ → Bool
is_on runnable i = false
is_on (blocked io) i = false
is_on (blocked (inlet j)) i = eqb j i
is_on outlet i = false

abbrev pub at_outlet : State → Bool
at_outlet runnable = false
at_outlet (blocked b) = false
at_outlet outlet = true

-- "A change wakes a reader only if it is blocked on that inlet."
unfoldable pub wake_reader : ℕ → ℕ → Machine → Machine
wake_reader p i m =
    elim (live m p) [
      | false ↦ m
      | true ↦
          let m' = set_changed p (insert i (get [] m.changed p)) m in
          elim (is_on (pipe_at m p).state i) [ true ↦ make_runnable p m' | false ↦ m' ]
    ]

-- "Joined ports and a slot's port have capacity 8; a shared source's ports have no limit.", and "Shared ports have no row limit."
abbrev pub full : Machine → ℕ → Bool
full m x = not (is_share_port x) && is_full capacity (queue_at m x)

-- "Any outlet full"
abbrev pub any_full : Machine → ℕ → Bool
any_full m p = any (full m) (outlets m p)

-- "An inlet that was read wakes its writer only if stopped at an outlet and all its outlets are now not full."; a shared source never
-- stops at an outlet
unfoldable pub wake_writer : ℕ → Machine → Machine
wake_writer x m =
    elim (not (is_share_port x) && live m x && at_outlet (pipe_at m x).state && not (any_full m x)) [ true ↦ make_runnable x m | false ↦ m ]

unfoldable pub wake_writers : List ℕ → Machine → Machine
wake_writers [] m = m
wake_writers (x ∷ xs) m = wake_writers xs (wake_writer x m)

-- "makes the slot dirty", once
abbrev pub mark_dirty : ℕ → Machine → Machine
mark_dirty k m = with_dirty (if has k m.dirty then m.dirty else k ∷ m.dirty) m

abbrev pub unmarked : Port → Port
unmarked x = record { there = x.there; closed = x.closed; changed = false; reader = x.reader }

unfoldable pub tell : Reader → ℕ → Machine → Machine
tell nobody x m = m
tell slot x m = mark_dirty (slot_at_place x) m
tell (pipe p i) x m = wake_reader p i m

-- a port's mark goes to its reader
unfoldable pub pass_mark : ℕ → Machine → Machine
pass_mark x m =
    elim (port_at m x).changed [ false ↦ m | true ↦ tell (port_at m x).reader x (set_port x (unmarked (port_at m x)) m) ]

unfoldable pub pass_marks : List ℕ → Machine → Machine
pass_marks [] m = m
pass_marks (x ∷ xs) m = pass_marks xs (pass_mark x m)
