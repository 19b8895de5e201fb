-- `driver::stage::give_out` meets its contract.
use mathlib.Core.Path.{refl, ◌∙◌}
use Rattle.rules.specs.Drive.{give_out}
use Rattle.tables.specs.View.{view}
use Rattle.driver.specs.Given.{give_batch}
use Rattle.driver.proofs.stage.give_out.Goals as goal

pub returns-in-End : goal.returns-in-End
unfolding give_out
returns-in-End c = (rw c.in-End.is, refl)

pub returns-in-More : goal.returns-in-More
returns-in-More c = (c.push.ensures.0 ∙ give_batch c.args.p.at c.args.x c.in-More.b (view c.args.s.now) c.in-More.is, c.push.ensures.1)
