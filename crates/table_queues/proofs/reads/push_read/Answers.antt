-- `table_queues::reads::push_read` meets its contract.
use borrow.Author.Rules.{rules}
use mathlib.Core.Path.{sym, ap, ◌∙◌}
use mathlib.Core.List.{List}
use lib.Dec.{ltb}
use lib.ListN.{length}
use Rattle.rules.specs.Machine.{Read}
use Rattle.tables.specs.View.{view}
use Rattle.tables.specs.Rings.{appended}
use Rattle.tables.specs.Reads.{reads_loaded, reads_written}
use Rattle.table_queues.specs.Read.{read_of}
use Rattle.table_queues.proofs.reads.push_read.Goals as goal

pub returns : goal.returns
returns c =
    let s = c.args.s.now in
    let e = sym (reads_loaded s (search rules)) in record {
      value = c.push.ensures.value ∙ ap (λ (l : List Read). ltb (length l) 24) e;
      becomes = reads_written s (search rules) c.push.new.r (appended 24 (read_of c.args.x) (view s).reads) (search rules)
          (c.push.ensures.r_after ∙ ap (appended 24 (read_of c.args.x)) e);
    }
