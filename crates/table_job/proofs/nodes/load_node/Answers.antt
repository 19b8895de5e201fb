-- `table_job::nodes::load_node` meets its contract.
use Rattle.tables.specs.Job.{node_loaded, node_past}
use mathlib.Core.Path.{sym, ap, ◌∙◌}
use Prim.Native.Nat.{◌+◌, ◌*◌}
use Rattle.layout.specs.Stored.{part_is}
use Rattle.tables.specs.Decode.{node}
use native.Mathlib.Omega.{arith}
use borrow.Author.Rules.{rules}
use Rattle.table_job.proofs.nodes.load_node.Goals as goal

pub returns-then-node_count-n : goal.returns-then-node_count-n
returns-then-node_count-n c =
    c.no_node.ensures ∙ node_past c.args.s.now (search rules) c.args.n (omega (arith, c.node_count.ensures.value))

pub returns : goal.returns
returns c =
    c.get_node.ensures ∙ ap node (part_is c.args.s.now (679 + c.args.n * 19) 19) ∙ sym
    (node_loaded c.args.s.now (search rules) c.args.n (omega (arith, c.node_count.ensures.value)))
