-- `check_lists::slot_list::unbuilt_ok` meets its contract: what is left to test has the same answer.
use mathlib.Core.Path.{◌≡◌}
use Prim.Native.Nat.{◌-◌}
use Rattle.rules.specs.Table.{all, up_from}
use mathlib.Core.Bool.{false, not, ◌||◌}
use Rattle.rules.specs.Table.{get}
use Rattle.rules.specs.Check.{is_first}
use Rattle.tables.specs.View.{view}
use Rattle.check_lists.proofs.slot_list.unbuilt_ok.Given as goal

abbrev pub invariant-loop-g : goal.invariant-loop-g
invariant-loop-g l =
    all (λ g. not (get false (view l.s).unbuilt g) || is_first (view l.s) g) (up_from 0 24)
    ≡ all (λ g. not (get false (view l.s).unbuilt g) || is_first (view l.s) g) (up_from l.g (24 - l.g))
