-- `table_job::node_fields::is_leaf` meets its contract.
use native.Mathlib.Omega.{arith}
use Rattle.table_job.specs.NodeFields.{leaf_zero, leaf_other}
use borrow.Author.Rules.{rules}
use Rattle.table_job.proofs.node_fields.is_leaf.Goals as goal

pub returns-then-k-eq0 : goal.returns-then-k-eq0
returns-then-k-eq0 c =
    leaf_zero c.args.s.now (search rules) c.args.n (omega (arith, c.node_count.ensures.value)) c.if-k-eq0.true

pub returns-else-k-eq0 : goal.returns-else-k-eq0
returns-else-k-eq0 c =
    leaf_other c.args.s.now (search rules) c.args.n (omega (arith, c.node_count.ensures.value)) c.if-k-eq0.false
