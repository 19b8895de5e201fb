-- `table_job::counts::split_count` meets its contract.
use Rattle.tables.specs.Job.{split_number}
use native.Mathlib.Omega.{arith}
use borrow.Author.Rules.{rules}
use Rattle.table_job.proofs.counts.split_count.Goals as goal

pub returns-clause-value : goal.returns-clause-value
returns-clause-value c = omega (arith, split_number c.args.s.now (search rules), c.min.ensures, c.from.ensures)
