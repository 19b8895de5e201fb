-- `table_queues::reads::load_read` meets its contract.
use borrow.Author.Rules.{rules}
use mathlib.Core.Path.{sym, ap, ◌∙◌}
use native.Mathlib.Omega.{arith}
use Prim.Native.Nat.{◌<◌}
use mathlib.Core.List.{List}
use lib.ListN.{length, take, drop}
use Rattle.rules.specs.Table.{get}
use Rattle.rules.specs.Machine.{Read, no_read}
use Rattle.tables.specs.View.{view}
use Rattle.tables.specs.Reads.{reads_in, reads_short, reads_loaded}
use Rattle.table_queues.proofs.reads.load_read.Goals as goal

pub invariant_of-load : goal.invariant_of-load
invariant_of-load c =
    let h : c.args.i < length (view c.args.s.now).reads = search rules in
    record { below = omega (arith, h, reads_short (take 97 (drop 276 c.args.s.now)), ap length (reads_loaded c.args.s.now (search rules))) }

pub load-requires : goal.load-requires
load-requires c =
    let h : c.args.i < length (reads_in (take 97 (drop 276 c.args.s.now))) = rw (← (reads_loaded c.args.s.now (search rules))) (search rules) in
    record { r_len = search rules; i_in_bounds = h }

pub returns : goal.returns
returns c =
    c.load.ensures ∙ ap (λ (l : List Read). get no_read l c.args.i) (sym (reads_loaded c.args.s.now (search rules)))
