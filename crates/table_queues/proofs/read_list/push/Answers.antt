-- `table_queues::read_list::push` meets its contract.
use borrow.Author.Rules.{rules}
use mathlib.Core.Path.{ap, ◌∙◌}
use lib.ListN.{length}
use Rattle.tables.specs.Rings.{appended_not, appended_one}
use Rattle.tables.specs.Reads.{reads_in, reads_count, reads_more}
use Rattle.table_queues.specs.Read.{read_of, read_back}
use Rattle.table_queues.proofs.read_list.push.Goals as goal

pub returns-then-n-ge24 : goal.returns-then-n-ge24
returns-then-n-ge24 c =
    let u = c.settle.new.r in
    let r = appended_not 24 (read_of c.args.x) (reads_in u) (reads_in c.args.r.now) c.settle.ensures.r_unchanged
    (rw (reads_count u c.settle.ensures.r_bound) (rw c.from-n.ensures at c.if-n-ge24.true)) in record {
      value = r.0;
      r_after = r.1;
    }

pub returns : goal.returns
returns c =
    let u = c.settle.new.r in
    let x = c.args.x in
    let e = c.copy_from_slice.ensures.after ∙ c.bytes_of.ensures in
    let l = rw c.from-n.ensures at c.if-n-ge24.false in
    let r = appended_one 24 (read_of x) (reads_in u) (reads_in c.args.r.now) _ c.settle.ensures.r_unchanged
    (rw (reads_count u c.settle.ensures.r_bound) l)
    (reads_more u (search rules) c.copy_from_slice.new.self (read_of x) l (ap length e) (rw e (read_back x))) in rw c.from-n.ensures (record { value = r.0; r_after = r.1 })
