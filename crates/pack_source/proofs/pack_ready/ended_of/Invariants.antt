-- `pack_source::pack_ready::ended_of` meets its contract: after i turns the first i are counted.
use mathlib.Core.Path.{◌≡◌}
use mathlib.Core.List.{map}
use Prim.Native.Nat.{◌≤◌}
use lib.ListN.{take}
use Rattle.rules.specs.Operators.{ended_count}
use Rattle.queue.specs.Seen.{seen_of}
use Rattle.pack_source.proofs.pack_ready.ended_of.Given as goal

abbrev pub invariant-loop-i : goal.invariant-loop-i
invariant-loop-i l =
    (l.count ≤ l.i) × (l.count ≡ ended_count (map seen_of (take l.i l.shown)))
