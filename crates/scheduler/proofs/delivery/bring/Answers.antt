-- `scheduler::delivery::bring` meets its contract.
use Rattle.scheduler.specs.Delivery.{bring_none}
use Rattle.numbers.specs.Opt.{option_of}
use mathlib.Core.Path.{refl, ap}
use Rattle.tables.specs.View.{view}
use Rattle.scheduler.proofs.delivery.bring.Goals as goal

pub returns-in-None : goal.returns-in-None
returns-in-None c = (bring_none c.args.x (view c.args.s.now) c.in-None.is, refl)

pub invariant_of-bring_to : goal.invariant_of-bring_to
invariant_of-bring_to c = record { below = rw c.from.ensures (c.requires.by_index c.in-Some.p (ap option_of c.in-Some.is)) }
