-- `table_ports::queues::clear_queue` meets its contract.
use Rattle.table_ports.specs.Moves.{clear_leaves}
use borrow.Author.Rules.{rules}
use Rattle.table_ports.proofs.queues.clear_queue.Goals as goal

pub returns : goal.returns
returns c =
    clear_leaves c.args.s.now (search rules) c.args.x.at (search rules) c.new.result c.new.ensures c.store_ring.new.s c.store_ring.ensures
