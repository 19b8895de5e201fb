-- `table_queues::read_list::settle` meets its contract.
use Rattle.tables.specs.Reads.{reads_settled}
use Rattle.table_queues.proofs.read_list.settle.Goals as goal

pub returns-then-r-gt24 : goal.returns-then-r-gt24
returns-then-r-gt24 c =
    rw c.copy_from_slice.ensures.after (let r = reads_settled c.args.r.now (c.requires) c.if-r-gt24.true in record { r_unchanged = r.0; r_bound = r.1 })
