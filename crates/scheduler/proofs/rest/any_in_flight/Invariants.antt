-- `scheduler::rest::any_in_flight` meets its contract.
use Rattle.rules.specs.Scan.{in_flight}
use Rattle.rules.specs.Table.{any}
use Rattle.tables.specs.View.{view}
use lib.ListN.{drop}
use mathlib.Core.Path.{◌≡◌}
use Rattle.scheduler.proofs.rest.any_in_flight.Given as goal

abbrev pub invariant-loop-i : goal.invariant-loop-i
invariant-loop-i l = any in_flight (view l.s).reads ≡ any in_flight (drop l.i (view l.s).reads)
