-- `check_lists::slot_list::slots_ok` meets its contract: what is left to test has the same answer.
use mathlib.Core.Path.{◌≡◌}
use Prim.Native.Nat.{◌-◌}
use Rattle.rules.specs.Table.{all, up_from}
use Rattle.rules.specs.Check.{slot_ok}
use Rattle.tables.specs.View.{view}
use Rattle.check_lists.proofs.slot_list.slots_ok.Given as goal

abbrev pub invariant-loop-k : goal.invariant-loop-k
invariant-loop-k l =
    all (slot_ok (view l.s)) (up_from 0 3)
    ≡ all (slot_ok (view l.s)) (up_from l.k (3 - l.k))
