-- A reader can be told of a change.
use Rattle.std.specs.Prelude.{◌≡◌, true, [], ℕ, ◌<◌, length}
use Rattle.rules.specs.Table.{get}
use Rattle.rules.specs.Machine.{Machine, Reader, pipe, port_at, live}
use Rattle.inlet_set.specs.Insert.{accepts}

-- a slot has a place among the dirty ones, and a pipeline that lives has one among its changed inlets
abbrev pub Told : Machine → Reader → Type 0
Told m r = (length m.dirty < 3) × ((p i : ℕ) → r ≡ pipe p i → live m p ≡ true → accepts i (get [] m.changed p) ≡ true)

-- a port's reader can be told of its mark
abbrev pub Tells : Machine → ℕ → Type 0
Tells m x = Told m (port_at m x).reader
