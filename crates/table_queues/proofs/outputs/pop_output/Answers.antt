-- `table_queues::outputs::pop_output` meets its contract.
use borrow.Author.Rules.{rules}
use mathlib.Core.Path.{sym, ap, ◌∙◌}
use lib.ListN.{drop}
use Rattle.tables.specs.View.{view}
use Rattle.tables.specs.Outputs.{outputs_loaded, outputs_written}
use Rattle.table_queues.proofs.outputs.pop_output.Goals as goal

pub returns : goal.returns
returns c =
    let s = c.args.s.now in
    outputs_written s (search rules) c.pop.new.r (drop 1 (view s).outputs) (search rules)
    (c.pop.ensures ∙ ap (drop 1) (sym (outputs_loaded s (search rules))))
