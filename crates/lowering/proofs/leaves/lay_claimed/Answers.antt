-- `lowering::leaves::lay_claimed` meets its contract.
use Rattle.lowering.proofs.leaves.lay_claimed.Goals as goal

pub returns : goal.returns
returns c = (rw (c.lay.ensures.0, c.stage_for-cut.ensures), c.lay.ensures.1)
