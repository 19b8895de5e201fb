-- `leaving::ports::free_places` meets its contract.
use mathlib.Core.Path.{◌≡◌}
use lib.ListN.{drop}
use Rattle.rules.specs.Machine.{place}
use Rattle.tables.specs.View.{view, machine_len}
use Rattle.leaving.specs.Ends.{Freeing}
use Rattle.leaving.proofs.ports.free_places.Given as goal

abbrev pub invariant-loop-i : goal.invariant-loop-i
invariant-loop-i l =
    Freeing (place l.k.at) l.i (view l.initial.s) (view l.s) × (drop machine_len l.s ≡ drop machine_len l.initial.s)
