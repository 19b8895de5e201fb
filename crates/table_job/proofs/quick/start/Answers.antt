-- `table_job::quick::start` meets its contract.
use Rattle.table_job.specs.Quick.{start_at}
use mathlib.Core.Path.{◌∙◌}
use borrow.Author.Rules.{rules}
use Rattle.table_job.proofs.quick.start.Goals as goal

pub returns : goal.returns
returns c = c.get_word.ensures ∙ start_at c.args.r.now (search rules)
