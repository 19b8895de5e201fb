-- `table_queues::outputs::push_output` meets its contract.
use borrow.Author.Rules.{rules}
use mathlib.Core.Path.{sym, ap, ◌∙◌}
use mathlib.Core.List.{List}
use lib.Dec.{ltb}
use lib.ListN.{length}
use Rattle.rules.specs.Port.{capacity}
use Rattle.rules.specs.Machine.{Output}
use Rattle.tables.specs.View.{view}
use Rattle.tables.specs.Rings.{appended}
use Rattle.tables.specs.Outputs.{outputs_loaded, outputs_written}
use Rattle.table_queues.specs.Output.{output_of}
use Rattle.table_queues.proofs.outputs.push_output.Goals as goal

pub returns : goal.returns
returns c =
    let s = c.args.s.now in
    let v = output_of c.args.x in
    let e = sym (outputs_loaded s (search rules)) in record {
      value = c.push.ensures.value ∙ ap (λ (l : List Output). ltb (length l) capacity) e;
      becomes = outputs_written s (search rules) c.push.new.r (appended capacity v (view s).outputs) (search rules)
          (c.push.ensures.r_after ∙ ap (appended capacity v) e);
    }
