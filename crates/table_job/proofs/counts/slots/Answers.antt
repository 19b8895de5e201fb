-- `table_job::counts::slots` meets its contract.
use Rattle.tables.specs.Job.{slots_at}
use borrow.Author.Rules.{rules}
use Rattle.table_job.proofs.counts.slots.Goals as goal

pub returns : goal.returns
returns c = slots_at c.args.s.now (search rules)
