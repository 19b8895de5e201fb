-- `running::neighbours::wake_inlet` meets its contract.
use mathlib.Core.Path.{refl, ap, ◌∙◌}
use Rattle.rules.specs.Table.{get}
use Rattle.numbers.specs.Opt.{option_of}
use Rattle.table_pipes.specs.Inlets.{inlets_of}
use Rattle.tables.specs.View.{view}
use Rattle.running.specs.Neighbours.{at_number, at_nothing}
use Rattle.running.proofs.neighbours.wake_inlet.Goals as goal

pub returns-in-Some : goal.returns-in-Some
returns-in-Some c = (
  c.wake_writer.ensures.0 ∙ at_number (get 0 (inlets_of c.args.xs)) c.port_of.result _ (option_of c.args.i) (view c.args.s.now) c.port_of.ensures
      (ap option_of c.in-Some.is),
  c.wake_writer.ensures.1,
)

pub returns-in_default : goal.returns-in_default
returns-in_default c =
    (at_nothing (get 0 (inlets_of c.args.xs)) (option_of c.args.i) (view c.args.s.now) (ap option_of c.in_default.is), refl)
