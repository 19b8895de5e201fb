-- `reach::within::overlaps` meets its contract.
use Rattle.reach.proofs.within.overlaps.Goals as goal

pub returns : goal.returns
returns c = rw (c.meets.ensures, c.reach_of.ensures.start_value, c.reach_of.ensures.end_value)
