-- `driver::stage::is_over` meets its contract.
use Rattle.driver.specs.Turns.{over_unended, over_ended}
use Rattle.driver.proofs.stage.is_over.Goals as goal

pub returns-in-None : goal.returns-in-None
returns-in-None c = over_unended c.args.x c.in-None.is

pub returns-in-Some : goal.returns-in-Some
returns-in-Some c = over_ended c.args.x c.in-Some.n c.from.result c.is_some.result c.if-not-x.true c.in-Some.is c.from.ensures c.is_some.ensures
