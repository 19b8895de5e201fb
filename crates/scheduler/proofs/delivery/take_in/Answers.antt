-- `scheduler::delivery::take_in` meets its contract.
use Rattle.scheduler.specs.Delivery.{owner_bound}
use Rattle.table_queues.specs.Read.{read_of}
use Rattle.tables.specs.View.{view}
use Rattle.scheduler.proofs.delivery.take_in.Goals as goal

pub bring-requires : goal.bring-requires
bring-requires c =
    record {
      by_index = λ p e. owner_bound c.args.i p (read_of c.args.x) (view c.args.s.now) c.requires.ranged c.requires.i_in_bounds c.requires.x_value e;
    }
