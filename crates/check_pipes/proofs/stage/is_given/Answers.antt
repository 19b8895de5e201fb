-- `check_pipes::stage::is_given` meets its contract.
use mathlib.Core.Path.{◌∙◌}
use Rattle.table_lists.specs.Given.{present_given}
use Rattle.check_pipes.proofs.stage.is_given.Goals as goal

pub returns : goal.returns
returns c = c.is_some.ensures ∙ present_given c.args.x
