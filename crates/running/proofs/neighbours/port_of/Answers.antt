-- `running::neighbours::port_of` meets its contract.
use mathlib.Core.Path.{◌∙◌}
use Rattle.running.specs.Neighbours.{port_in, port_past}
use Rattle.running.proofs.neighbours.port_of.Goals as goal

pub returns-then-k-xs : goal.returns-then-k-xs
returns-then-k-xs c = c.from.ensures ∙ port_in _ _ _ _ c.from-k.ensures c.if-k-xs.true

pub returns-else-k-xs : goal.returns-else-k-xs
returns-else-k-xs c = port_past _ _ _ _ c.from-k.ensures c.if-k-xs.false
