-- `check_ports::shared::has_source` meets its contract.
use Rattle.tables.specs.View.{view}
use Rattle.check_ports.specs.Sources.{Seeks}
use Rattle.check_ports.proofs.shared.has_source.Given as goal

abbrev pub invariant-loop-g : goal.invariant-loop-g
invariant-loop-g l = Seeks (view l.s) l.l.at l.g
