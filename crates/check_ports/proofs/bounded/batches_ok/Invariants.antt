-- `check_ports::bounded::batches_ok` meets its contract.
use mathlib.Core.Path.{◌≡◌}
use lib.ListN.{drop}
use Rattle.rules.specs.Table.{all}
use Rattle.rules.specs.Machine.{queue_at}
use Rattle.rules.specs.Check.{batch_ok}
use Rattle.tables.specs.View.{view}
use Rattle.check_ports.proofs.bounded.batches_ok.Given as goal

abbrev pub invariant-loop-i : goal.invariant-loop-i
invariant-loop-i l =
    all (batch_ok (view l.s).job l.width) (queue_at (view l.s) l.x.at) ≡ all (batch_ok (view l.s).job l.width) (drop l.i (queue_at (view l.s) l.x.at))
