-- `table_job::counts::node_count` meets its contract.
use Rattle.tables.specs.Job.{too_many_nodes, too_many_splits, node_number}
use mathlib.Core.Path.{◌∙◌}
use borrow.Author.Rules.{rules}
use Rattle.table_job.proofs.counts.node_count.Goals as goal

pub returns-then-s-gt24 : goal.returns-then-s-gt24
returns-then-s-gt24 c = record { value = too_many_nodes c.args.s.now (search rules) (search rules); upper_bound = search rules }

pub returns-then-s-gt16 : goal.returns-then-s-gt16
returns-then-s-gt16 c = record { value = too_many_splits c.args.s.now (search rules) (search rules); upper_bound = search rules }

pub returns-else-s-gt16 : goal.returns-else-s-gt16
returns-else-s-gt16 c =
    record { value = c.from.ensures ∙ node_number c.args.s.now (search rules) (search rules) (search rules); upper_bound = search rules }
