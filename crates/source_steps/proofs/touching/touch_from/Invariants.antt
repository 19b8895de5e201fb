-- `source_steps::touching::touch_from` meets its contract: the set has place for the numbers from k on, and has those before k.
use Rattle.std.proofs.Common.{◌≡◌, ◌-◌}
use Rattle.rules.specs.Table.{up_from}
use Rattle.rules.specs.InletSet.{insert_all}
use Rattle.inlet_set.specs.InletSet.{set_of}
use Rattle.order.specs.RangeParts.{SetFits}
use Rattle.source_steps.proofs.touching.touch_from.Given as goal

abbrev pub invariant-loop-k : goal.invariant-loop-k
invariant-loop-k l =
    SetFits 23 (set_of l.set) × (insert_all (up_from l.k (l.n - l.k)) (set_of l.set) ≡ insert_all (up_from l.i (l.n - l.i)) (set_of l.initial.set))
