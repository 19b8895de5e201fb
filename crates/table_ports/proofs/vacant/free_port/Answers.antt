-- `table_ports::vacant::free_port` meets its contract.
use mathlib.Core.Path.{◌∙◌}
use Rattle.table_ports.proofs.vacant.free_port.Goals as goal

pub returns : goal.returns
returns c =
    (rw (c.empty_queue.ensures.0, c.store_port.ensures.0), c.empty_queue.ensures.1 ∙ c.store_port.ensures.1)
