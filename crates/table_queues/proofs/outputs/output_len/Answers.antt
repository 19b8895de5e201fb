-- `table_queues::outputs::output_len` meets its contract.
use borrow.Author.Rules.{rules}
use mathlib.Core.Path.{sym, ap, ◌∙◌}
use lib.ListN.{length}
use Rattle.tables.specs.Outputs.{outputs_loaded}
use Rattle.table_queues.proofs.outputs.output_len.Goals as goal

pub returns : goal.returns
returns c = c.count.ensures ∙ ap length (sym (outputs_loaded c.args.s.now (search rules)))
