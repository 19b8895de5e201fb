-- `table_job::quick::run` meets its contract.
use Rattle.table_job.specs.Quick.{run_at}
use mathlib.Core.Path.{◌∙◌}
use borrow.Author.Rules.{rules}
use Rattle.table_job.proofs.quick.run.Goals as goal

pub returns : goal.returns
returns c =
    c.get_run.ensures ∙ run_at c.args.r.now (search rules) c.args.k c.requires
