-- `table_blank::nodes::store_nodes` meets its contract: the first i nodes are written.
use Prim.Native.Nat.{◌+◌, ◌≤◌, ◌<◌}
use mathlib.Core.Path.{◌≡◌, refl}
use native.Mathlib.Omega.{arith}
use lib.ListN.{length}
use Rattle.rules.specs.Job.{no_node}
use Rattle.jobs.specs.Job.{front, node_of}
use Rattle.jobs.proofs.Front.{front_none}
use Rattle.tables.specs.Decode.{node}
use Rattle.table_blank.specs.Filled.{front_next, filled_none, filled_more}
use borrow.Author.Rules.{rules}
use Rattle.table_blank.proofs.nodes.store_nodes.Goals as goal

pub loop-i-init : goal.loop-i-init
loop-i-init c = rw (front_none node_of _) (filled_none node 679 19 24 _)

pub loop-i-preserved : goal.loop-i-preserved
loop-i-preserved c =
    let s = c.args.s.now in
    let nodes = c.args.nodes in
    let ys = c.put_node.new.r in
    let h : c.loop-i.i < 24 = search rules in
    let g : length nodes ≡ 24 = c.well_formed.1.0.1.0.1 in
    let z : 39327 ≤ length s = search rules in
    let n : length ys ≡ 19 = search rules in
    filled_more node 679 19 24 s c.loop-i.s c.loop-i.i (front node_of nodes c.loop-i.i) (front node_of nodes (c.loop-i.i + 1)) ys no_node h
    (omega arith) refl n
    (front_next node_of nodes c.loop-i.i _ (node ys) (omega (arith, g)) c.put_node.ensures) c.loop-i.invariant
