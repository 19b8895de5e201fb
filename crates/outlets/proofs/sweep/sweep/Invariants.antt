-- `outlets::sweep::sweep` meets its contract.
use mathlib.Core.Path.{◌≡◌}
use Prim.Native.Nat.{◌+◌, ◌-◌, ◌*◌}
use lib.ListN.{drop}
use Rattle.tables.specs.View.{view, machine_len}
use Rattle.outlets.specs.Act.{Able, sweep}
use Rattle.outlets.proofs.sweep.sweep.Given as goal

abbrev pub invariant-loop-l : goal.invariant-loop-l
invariant-loop-l l =
    Able l.a (view l.s) × (sweep l.a l.p (384 - 16 * l.l) (72 + 16 * l.l) (view l.s) ≡ sweep l.a l.p 384 72 (view l.initial.s)) ×
    (drop machine_len l.s ≡ drop machine_len l.initial.s)
