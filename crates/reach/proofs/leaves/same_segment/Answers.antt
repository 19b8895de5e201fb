-- `reach::leaves::same_segment` meets its contract.
use Rattle.reach.proofs.leaves.same_segment.Goals as goal

pub returns : goal.returns
returns c = rw (c.names.ensures, c.node_segment.ensures)
