-- `table_ports::queues::queue_len` meets its contract.
use mathlib.Core.Path.{◌∙◌}
use Rattle.table_ports.specs.Moves.{count_is}
use borrow.Author.Rules.{rules}
use Rattle.table_ports.proofs.queues.queue_len.Goals as goal

pub returns : goal.returns
returns c =
    c.len.ensures ∙ (λ i. (c.settled.ensures i).count)
    ∙ count_is c.args.s.now (search rules) c.args.x.at (search rules) c.load_ring.result c.load_ring.ensures
