-- `table_queues::output_ring::store` meets its contract.
use borrow.Author.Rules.{rules}
use mathlib.Core.Path.{ap, ◌∙◌}
use Rattle.rules.specs.Port.{Batch}
use Rattle.rules.specs.Machine.{Output}
use Rattle.tables.specs.Outputs.{output_back}
use Rattle.table_queues.proofs.output_ring.store.Goals as goal

pub returns : goal.returns
returns c =
    let n = c.args.x.split in
    output_back c.args.r.now c.put_batch.new.r n (search rules) (search rules) ∙ ap {B = Output} (λ (b : Batch). record { split = n; batch = b })
    c.put_batch.ensures
