-- `table_queues::output_ring::load` meets its contract.
use mathlib.Core.Path.{sym, ap, ◌∙◌}
use lib.ListN.{get_or}
use Rattle.rules.specs.Port.{Batch}
use Rattle.rules.specs.Machine.{Output}
use Rattle.tables.specs.Outputs.{output_is}
use Rattle.table_queues.proofs.output_ring.load.Goals as goal

pub returns : goal.returns
returns c =
    let r = c.args.r.now in record {
      result_value = ap {B = Output} (λ (b : Batch). record { split = get_or r 0 0; batch = b }) c.get_batch.ensures.result_value ∙ sym
          (output_is r);
      width_bound = c.get_batch.ensures.width_bound;
    }
