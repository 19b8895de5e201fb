-- `table_job::split_fields::split_start` meets its contract.
use mathlib.Core.Path.{◌∙◌}
use native.Mathlib.Omega.{arith}
use Rattle.table_job.specs.SplitFields.{no_start, start_in}
use borrow.Author.Rules.{rules}
use Rattle.table_job.proofs.split_fields.split_start.Goals as goal

pub returns-then-split_count-t : goal.returns-then-split_count-t
returns-then-split_count-t c =
    no_start c.args.s.now (search rules) c.args.t (omega (arith, c.split_count.ensures.value))

pub returns : goal.returns
returns c =
    c.get_word.ensures ∙ start_in c.args.s.now (search rules) c.args.t (omega (arith, c.split_count.ensures.value))
