-- `scheduler::rest::any_in_flight` meets its contract.
use Rattle.scheduler.specs.Rest.{flight_here, flight_next, flight_none}
use Rattle.table_queues.specs.Read.{read_of}
use Rattle.tables.specs.View.{view}
use mathlib.Core.Path.{sym, ◌∙◌}
use native.Mathlib.Omega.{arith}
use Rattle.scheduler.proofs.rest.any_in_flight.Goals as goal

pub returns-then-not-load_read : goal.returns-then-not-load_read
returns-then-not-load_read c =
    flight_here (view c.args.s.now).reads c.loop-i.i (read_of c.load_read.result) (omega (arith, c.read_count-i-end.ensures)) c.load_read.ensures
    c.if-not-load_read.true ∙ sym c.loop-i.invariant

pub loop-i-preserved : goal.loop-i-preserved
loop-i-preserved c =
    c.loop-i.invariant ∙ flight_next (view c.args.s.now).reads c.loop-i.i (read_of c.load_read.result) (omega (arith, c.read_count-i-end.ensures))
    c.load_read.ensures c.if-not-load_read.false

pub returns : goal.returns
returns c =
    flight_none (view c.args.s.now).reads c.loop-i.i (omega (arith, c.read_count-i-end.ensures)) ∙ sym c.loop-i.invariant
