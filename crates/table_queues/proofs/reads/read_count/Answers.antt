-- `table_queues::reads::read_count_lem` meets its contract.
use borrow.Author.Rules.{rules}
use mathlib.Core.Path.{sym, ap, ◌∙◌}
use lib.ListN.{length}
use Rattle.tables.specs.Reads.{reads_loaded}
use Rattle.table_queues.proofs.reads.read_count.Goals as goal

pub returns : goal.returns
returns c = c.count.ensures ∙ ap length (sym (reads_loaded c.args.s.now (search rules)))
