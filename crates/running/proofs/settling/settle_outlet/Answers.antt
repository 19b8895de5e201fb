-- `running::settling::settle_outlet` meets its contract.
use mathlib.Core.Path.{◌∙◌}
use Rattle.tables.specs.View.{view}
use Rattle.running.specs.Settles.{outlet_wakes, outlet_settles}
use Rattle.running.proofs.settling.settle_outlet.Goals as goal

pub wake_neighbours-requires : goal.wake_neighbours-requires
wake_neighbours-requires c =
    let w = outlet_wakes c.args.p.at (view c.args.s.now) _ c.requires.drive_fits c.set_state.ensures.0 in
    record { fits = w.0; live = w.1.0; s_len_bound = w.1.1 }

pub returns : goal.returns
returns c = (
  outlet_settles c.args.p.at (view c.args.s.now) _ _ c.set_state.ensures.0 c.wake_neighbours.ensures.0,
  c.wake_neighbours.ensures.1 ∙
      c.set_state.ensures.1,
)
