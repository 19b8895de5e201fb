-- `claims::share_ports::make_ports` meets its contract.
use mathlib.Core.Path.{◌≡◌}
use Prim.Native.Nat.{◌*◌}
use lib.ListN.{drop}
use Rattle.tables.specs.View.{view, machine_len}
use Rattle.claims.specs.Made.{Making, all_ports}
use Rattle.claims.proofs.share_ports.make_ports.Given as goal

abbrev pub invariant-loop-i : goal.invariant-loop-i
invariant-loop-i l =
    Making (all_ports (view l.initial.s) l.l) l.l (16 * l.n) (16 * l.i) (view l.initial.s) (view l.s) × (drop machine_len l.s ≡ drop machine_len l.initial.s)
