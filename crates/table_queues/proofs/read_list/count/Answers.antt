-- `table_queues::read_list::count` meets its contract.
use mathlib.Core.Path.{sym, ◌∙◌}
use Rattle.tables.specs.Reads.{reads_many, reads_count}
use Rattle.table_queues.proofs.read_list.count.Goals as goal

pub returns-then-r-gt24 : goal.returns-then-r-gt24
returns-then-r-gt24 c = rw (reads_many c.args.r.now c.if-r-gt24.true)

pub returns-else-r-gt24 : goal.returns-else-r-gt24
returns-else-r-gt24 c = c.from.ensures ∙ sym (reads_count c.args.r.now c.if-r-gt24.false)
