-- `table_ports::queues::full_in` meets its contract.
use mathlib.Core.Path.{◌∙◌}
use Rattle.table_ports.specs.Moves.{full_is}
use borrow.Author.Rules.{rules}
use Rattle.table_ports.proofs.queues.full_in.Goals as goal

pub returns : goal.returns
returns c =
    c.is_full.ensures
    ∙ full_is c.args.s.now (search rules) c.args.x.at (search rules) c.load_ring.result c.load_ring.ensures c.settled.result c.rows_in.result
    c.settled.ensures c.rows_in.ensures
