-- `lowering::joins::connect` meets its contract.
use mathlib.Core.Path.{◌∙◌}
use Rattle.lowering.proofs.joins.connect.Goals as goal

pub returns : goal.returns
returns c =
    (rw (c.add.ensures.0, c.make_port.ensures.0), c.add.ensures.1 ∙ c.make_port.ensures.1)
