-- The measures of the cycle of calls: twice the nodes left below, and one more for a node.
use Rattle.std.proofs.Common.{◌+◌, ◌-◌}
use Rattle.lowering.proofs.walk.+lower_children_lower_subtree.Given as goal

abbrev pub decreases-lower_children : goal.decreases-lower_children
decreases-lower_children l = (l.n.at - l.i) + (l.n.at - l.i)

abbrev pub decreases-lower_subtree : goal.decreases-lower_subtree
decreases-lower_subtree l = (l.n.at - l.i) + (l.n.at - l.i) + 1
