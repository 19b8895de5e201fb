-- `scheduler::rest::all_free` meets its contract.
use Rattle.rules.specs.Scan.{is_free, slots_of}
use Rattle.rules.specs.Table.{all, up_from}
use Rattle.tables.specs.View.{view}
use Prim.Native.Nat.{◌-◌}
use mathlib.Core.Path.{◌≡◌}
use Rattle.scheduler.proofs.rest.all_free.Given as goal

abbrev pub invariant-loop-k : goal.invariant-loop-k
invariant-loop-k l = all (is_free (view l.s)) (slots_of (view l.s)) ≡ all (is_free (view l.s)) (up_from l.k ((view l.s).job.slots - l.k))
