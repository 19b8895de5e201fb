-- `table_queues::read_list::store` meets its contract.
use borrow.Author.Rules.{rules}
use mathlib.Core.Path.{ap, ◌∙◌}
use mathlib.Core.List.{List}
use lib.ListN.{length}
use Rattle.rules.specs.Table.{put}
use Rattle.rules.specs.Machine.{Read, no_read}
use Rattle.tables.specs.Reads.{reads_put}
use Rattle.table_queues.specs.Read.{read_of, read_back}
use Rattle.table_queues.proofs.read_list.store.Goals as goal

pub returns : goal.returns
returns c =
    let x = c.args.x in
    let e = c.copy_from_slice.ensures.after ∙ c.bytes_of.ensures in
    reads_put c.settle.new.r (search rules) c.args.i.at c.copy_from_slice.new.self (read_of x) c.settle.ensures.r_bound
    (rw c.settle.ensures.r_unchanged (search rules)) (ap length e)
    (rw e (read_back x))
    ∙ ap (λ (l : List Read). put no_read l c.args.i.at (read_of x)) c.settle.ensures.r_unchanged
