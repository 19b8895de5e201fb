-- What a queue is: a ring of places. What a place holds lies elsewhere.
use Rattle.std.specs.Prelude.{Bool, ◌&&◌, List, [], ◌∷◌, ℕ, ◌+◌, ◌-◌, ◌%◌, ltb, leb, if◌then◌else◌}
use Rattle.rules.specs.Port.{raised}
use Rattle.queue.specs.declared.capacity.Queue.{Queue}
use Rattle.queue.specs.Ring.{ring}

-- "a new function raising capacity 0 to 1": nothing waits
abbrev pub fresh : ℕ → Queue
fresh n = record { head = 0; count = 0; capacity = raised n }

-- "a shared source's ports have no limit": the largest capacity that there is
abbrev pub no_limit : ℕ
no_limit = 18446744073709551615

-- the head is one of the places, and there are no more entries than places
abbrev pub sound : Queue → Bool
sound q = ltb q.head q.capacity && leb q.count q.capacity

-- where the entry i behind the oldest stands
abbrev pub place_of : Queue → ℕ → ℕ
place_of q i = (q.head + i) % q.capacity

-- one entry more
abbrev pub pushed : Queue → Queue
pushed q = record { head = q.head; count = q.count + 1; capacity = q.capacity }

-- without the oldest
abbrev pub popped : Queue → Queue
popped q = record { head = place_of q 1; count = q.count - 1; capacity = q.capacity }

-- its entries, the oldest first. "a stored position, count … out of its range" is refused: such a ring is one entry that no check accepts
unfoldable pub held : {A : Type 0} → A → (ℕ → A) → Queue → List A
held bad at q = if sound q then ring at q.capacity q.head q.count else bad ∷ []

-- the queue that is read so, with that entry at its first place
abbrev pub settled : Queue → Queue
settled q = if sound q then q else record { head = 0; count = 1; capacity = q.capacity }
