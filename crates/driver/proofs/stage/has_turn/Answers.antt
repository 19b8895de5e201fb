-- `driver::stage::has_turn` meets its contract.
use mathlib.Core.Path.{◌∙◌}
use Rattle.table_lists.specs.Given.{present_given}
use Rattle.driver.proofs.stage.has_turn.Goals as goal

pub returns-else-x : goal.returns-else-x
returns-else-x c = rw c.if-x.false (c.is_some.ensures ∙ present_given c.args.x.finishing)
