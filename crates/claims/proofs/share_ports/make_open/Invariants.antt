-- `claims::share_ports::make_open` meets its contract.
use mathlib.Core.Path.{◌≡◌}
use Prim.Native.Nat.{◌+◌, ◌*◌}
use lib.ListN.{drop}
use Rattle.tables.specs.View.{view, machine_len}
use Rattle.claims.specs.Made.{Making, leaf_ports}
use Rattle.claims.proofs.share_ports.make_open.Given as goal

abbrev pub invariant-loop-y : goal.invariant-loop-y
invariant-loop-y l =
    Making (leaf_ports (view l.initial.s) l.l l.fn.i.at) l.l (16 * l.fn.i.at + 16) l.y (view l.initial.s) (view l.s) × (drop machine_len l.s ≡ drop machine_len l.initial.s)
