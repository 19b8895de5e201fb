-- `leaving::rising::next` meets its contract.
use mathlib.Core.Path.{refl}
use Rattle.leaving.specs.Found.{place_of}
use Rattle.tables.specs.View.{view}
use Rattle.leaving.specs.Going.{looking_start, looking_next, looking_end}
use Rattle.leaving.proofs.rising.next.Goals as goal

pub loop-i-init : goal.loop-i-init
loop-i-init c = looking_start (view c.args.s.now) c.args.k

pub loop-i-preserved : goal.loop-i-preserved
loop-i-preserved c =
    looking_next (view c.args.s.now) c.args.k c.loop-i.i _ (place_of c.loop-i.best) _ c.loop-i-test.true refl c.pick-best.ensures
    c.loop-i.invariant

pub returns : goal.returns
returns c =
    looking_end (view c.args.s.now) c.args.k c.loop-i.i (place_of c.loop-i.best) c.loop-i-test.false c.loop-i.invariant
