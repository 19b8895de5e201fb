-- `table_queues::reads::store_read` meets its contract.
use borrow.Author.Rules.{rules}
use mathlib.Core.Path.{sym, ap, ◌∙◌}
use native.Mathlib.Omega.{arith}
use Prim.Native.Nat.{◌<◌}
use mathlib.Core.List.{List}
use lib.ListN.{length, take, drop}
use Rattle.rules.specs.Table.{put}
use Rattle.rules.specs.Machine.{Read, no_read}
use Rattle.tables.specs.View.{view}
use Rattle.tables.specs.Reads.{reads_in, reads_short, reads_loaded, reads_written}
use Rattle.table_queues.specs.Read.{read_of}
use Rattle.table_queues.proofs.reads.store_read.Goals as goal

pub invariant_of-store : goal.invariant_of-store
invariant_of-store c =
    let h : c.args.i < length (view c.args.s.now).reads = search rules in
    record { below = omega (arith, h, reads_short (take 97 (drop 276 c.args.s.now)), ap length (reads_loaded c.args.s.now (search rules))) }

pub store-requires : goal.store-requires
store-requires c =
    let h : c.args.i < length (reads_in (take 97 (drop 276 c.args.s.now))) = rw (← (reads_loaded c.args.s.now (search rules))) (search rules) in
    record { r_len = search rules; i_in_bounds = h }

pub returns : goal.returns
returns c =
    let s = c.args.s.now in
    reads_written s (search rules) c.store.new.r (put no_read (view s).reads c.args.i (read_of c.args.x)) (search rules)
    (c.store.ensures ∙ ap (λ (l : List Read). put no_read l c.args.i (read_of c.args.x)) (sym (reads_loaded s (search rules))))
