-- `table_job::quick::split_record` meets its contract.
use Rattle.table_job.specs.Quick.{few_splits}
use Rattle.layout.specs.Stored.{part_is}
use Rattle.tables.specs.Decode.{split}
use Rattle.tables.specs.Job.{split_loaded}
use Prim.Native.Nat.{◌+◌, ◌*◌}
use mathlib.Core.Path.{sym, ap, ◌∙◌}
use native.Mathlib.Omega.{arith}
use borrow.Author.Rules.{rules}
use Rattle.table_job.proofs.quick.split_record.Goals as goal

pub overflow_mul-a : goal.overflow_mul-a
overflow_mul-a c = record { fits = omega (arith, few_splits c.args.s.now (search rules) c.args.i c.requires) }

pub overflow_add-a : goal.overflow_add-a
overflow_add-a c = omega (arith, few_splits c.args.s.now (search rules) c.args.i c.requires)

pub overflow_add-a-2 : goal.overflow_add-a-2
overflow_add-a-2 c = omega (arith, few_splits c.args.s.now (search rules) c.args.i c.requires)

pub slice_bounds-try_into-end : goal.slice_bounds-try_into-end
slice_bounds-try_into-end c = omega (arith, few_splits c.args.s.now (search rules) c.args.i c.requires)

pub returns : goal.returns
returns c =
    let w = rw c.unwrap.ensures at c.try_into.ensures in
    ap split (w.1.same ∙ part_is c.args.s.now (1135 + c.args.i * 137) 137) ∙ sym
    (split_loaded c.args.s.now (search rules) c.args.i c.requires)
