-- `table_queues::outputs::output_at` meets its contract.
use mathlib.Core.Path.{sym, ap, ◌∙◌}
use mathlib.Core.List.{List}
use Rattle.rules.specs.Table.{get}
use Rattle.rules.specs.Machine.{Output}
use Rattle.tables.specs.Outputs.{no_output, outputs_loaded}
use borrow.Author.Rules.{rules}
use Rattle.table_queues.proofs.outputs.output_at.Goals as goal

pub entry-requires : goal.entry-requires
entry-requires c =
    record { r_len = search rules; k_in_bounds = rw (← (outputs_loaded c.args.s.now (search rules))) (search rules) }

pub returns : goal.returns
returns c =
    record {
      result_value = c.entry.ensures.result_value ∙ ap (λ (l : List Output). get no_output l c.args.k)
          (sym (outputs_loaded c.args.s.now (search rules)));
      width_bound = c.entry.ensures.width_bound;
    }
