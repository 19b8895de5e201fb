-- `table_queues::read_list::load` meets its contract.
use borrow.Author.Rules.{rules}
use mathlib.Core.Path.{sym}
use Rattle.tables.specs.Reads.{reads_only, reads_get}
use Rattle.table_queues.proofs.read_list.load.Goals as goal

pub returns-then-r-gt24 : goal.returns-then-r-gt24
returns-then-r-gt24 c = reads_only c.args.r.now c.args.i.at c.if-r-gt24.true (search rules)

pub returns : goal.returns
returns c =
    rw c.option.ensures (sym (reads_get c.args.r.now (search rules) c.args.i.at c.if-r-gt24.false (search rules)))
