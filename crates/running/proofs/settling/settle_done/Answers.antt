-- `running::settling::settle_done` meets its contract.
use mathlib.Core.Path.{◌∙◌}
use Rattle.tables.specs.View.{view}
use Rattle.running.specs.Settles.{done_inlets, done_settles}
use Rattle.running.proofs.settling.settle_done.Goals as goal

pub retire-requires : goal.retire-requires
retire-requires c =
    record { all = done_inlets c.args.p.at (view c.args.s.now) _ c.requires.drive_fits c.wake_neighbours.ensures.0 }

pub returns : goal.returns
returns c =
    (done_settles c.args.p.at (view c.args.s.now) _ _ c.wake_neighbours.ensures.0 c.retire.ensures.0, c.retire.ensures.1 ∙ c.wake_neighbours.ensures.1)
