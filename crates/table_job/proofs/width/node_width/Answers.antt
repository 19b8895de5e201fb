-- `table_job::width::node_width` meets its contract.
use mathlib.Core.Path.{sym, ap}
use Rattle.rules.specs.Job.{Node}
use Rattle.table_job.specs.NodeFields.{no_record, width_in}
use borrow.Author.Rules.{rules}
use Rattle.table_job.proofs.width.node_width.Goals as goal

pub returns-in-Some : goal.returns-in-Some
returns-in-Some c =
    width_in c.args.s.now (search rules) c.args.n c.in-Some.a (sym c.in-Some.ensures.value)

pub returns-in-None : goal.returns-in-None
returns-in-None c = ap (λ (x : Node). x.width) (no_record c.args.s.now (search rules) c.args.n (sym c.in-None.ensures.value))
