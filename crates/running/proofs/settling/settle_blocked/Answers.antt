-- `running::settling::settle_blocked` meets its contract.
use mathlib.Core.Path.{◌∙◌}
use Rattle.rules.specs.Drive.{is_blocked}
use Rattle.operator.specs.Answer.{blocked_of}
use Rattle.tables.specs.View.{view}
use Rattle.running.specs.Settles.{stopped_wakes}
use Rattle.running.proofs.settling.settle_blocked.Goals as goal

pub wake_neighbours-requires : goal.wake_neighbours-requires
wake_neighbours-requires c =
    let w = stopped_wakes c.args.p.at (is_blocked (blocked_of c.args.b)) (view c.args.s.now) _ c.requires.drive_fits c.stop_blocked.ensures.0 in
    record { fits = w.0; live = w.1.0; s_len_bound = w.1.1 }

pub returns : goal.returns
returns c =
    (rw (c.wake_neighbours.ensures.0, c.stop_blocked.ensures.0), c.wake_neighbours.ensures.1 ∙ c.stop_blocked.ensures.1)
