-- `outlets::sweep::sweep_leaf` meets its contract.
use mathlib.Core.Path.{◌≡◌}
use Prim.Native.Nat.{◌+◌, ◌-◌, ◌*◌}
use lib.ListN.{drop}
use Rattle.tables.specs.View.{view, machine_len}
use Rattle.outlets.specs.Act.{Able, sweep}
use Rattle.outlets.proofs.sweep.sweep_leaf.Given as goal

abbrev pub invariant-loop-x : goal.invariant-loop-x
invariant-loop-x l =
    Able l.a (view l.s) × (sweep l.a l.p (72 + 16 * l.fn.l.at + 16 - l.x) l.x (view l.s) ≡ sweep l.a l.p 16 (72 + 16 * l.fn.l.at) (view l.initial.s)) ×
    (drop machine_len l.s ≡ drop machine_len l.initial.s)
