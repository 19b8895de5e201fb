-- `table_job::quick::end` meets its contract.
use Rattle.table_job.specs.Quick.{end_at}
use mathlib.Core.Path.{◌∙◌}
use borrow.Author.Rules.{rules}
use Rattle.table_job.proofs.quick.end.Goals as goal

pub returns : goal.returns
returns c = c.get_word.ensures ∙ end_at c.args.r.now (search rules)
