-- `table_job::split_fields::run_at` meets its contract.
use mathlib.Core.Path.{ap, ◌∙◌}
use Prim.Native.Nat.{◌+◌, ◌*◌}
use native.Mathlib.Omega.{arith}
use Rattle.layout.specs.Stored.{part_is}
use Rattle.tables.specs.Decode.{run}
use Rattle.table_job.specs.SplitFields.{run_none, run_blank, run_past, run_in}
use borrow.Author.Rules.{rules}
use Rattle.table_job.proofs.split_fields.run_at.Goals as goal

pub returns-then-split_count-t : goal.returns-then-split_count-t
returns-then-split_count-t c =
    c.no_run.ensures ∙ run_none c.args.s.now (search rules) c.args.t c.args.i (omega (arith, c.split_count.ensures.value))

pub returns-then-n-gt16 : goal.returns-then-n-gt16
returns-then-n-gt16 c =
    c.no_run-then-n-gt16.ensures ∙ run_blank c.args.s.now (search rules) c.args.t (omega (arith, c.split_count.ensures.value)) _ c.from-n.ensures
    c.if-n-gt16.true c.args.i

pub returns-then-n-i : goal.returns-then-n-i
returns-then-n-i c =
    c.no_run-then-n-i.ensures ∙ run_past c.args.s.now (search rules) c.args.t (omega (arith, c.split_count.ensures.value)) _
    c.from-n.ensures c.if-n-gt16.false c.args.i
    c.if-n-i.true

pub returns : goal.returns
returns c =
    c.get_run.ensures
    ∙ ap run (part_is c.args.s.now (1135 + c.args.t * 137 + 9 + c.args.i * 8) 8)
    ∙ run_in c.args.s.now (search rules) c.args.t (omega (arith, c.split_count.ensures.value)) _ c.from-n.ensures c.if-n-gt16.false
    c.args.i c.if-n-i.false
