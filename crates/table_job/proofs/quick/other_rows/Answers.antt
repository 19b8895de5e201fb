-- `table_job::quick::other_rows` meets its contract.
use Rattle.table_job.specs.Quick.{few_nodes}
use Rattle.rules.specs.Job.{other_rows}
use Rattle.layout.specs.Stored.{part_is}
use Rattle.tables.specs.Decode.{node}
use Rattle.tables.specs.Job.{node_loaded}
use Prim.Native.Nat.{◌+◌, ◌*◌}
use native.Mathlib.Omega.{arith}
use mathlib.Core.Path.{sym, ap, ◌∙◌}
use borrow.Author.Rules.{rules}
use Rattle.table_job.proofs.quick.other_rows.Goals as goal

pub overflow_mul-a : goal.overflow_mul-a
overflow_mul-a c = record { fits = omega (arith, few_nodes c.args.s.now (search rules) c.args.k c.requires) }

pub overflow_add-a : goal.overflow_add-a
overflow_add-a c = omega (arith, few_nodes c.args.s.now (search rules) c.args.k c.requires)

pub overflow_add-a-2 : goal.overflow_add-a-2
overflow_add-a-2 c = omega (arith, few_nodes c.args.s.now (search rules) c.args.k c.requires)

pub slice_bounds-differs-end : goal.slice_bounds-differs-end
slice_bounds-differs-end c = omega (arith, few_nodes c.args.s.now (search rules) c.args.k c.requires)

pub returns : goal.returns
returns c =
    c.differs.ensures ∙ ap (λ x. other_rows c.args.g c.args.n x) (ap node (part_is c.args.s.now (679 + c.args.k * 19) 19) ∙ sym
    (node_loaded c.args.s.now (search rules) c.args.k c.requires))
