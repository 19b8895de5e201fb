-- `table_sets::packs::store_seen` meets its contract.
use mathlib.Core.Path.{ap}
use lib.ListN.{length}
use borrow.Author.Rules.{rules}
use Rattle.pack_source.specs.Pack.{seen_in}
use Rattle.tables.specs.Written.{seen_written}
use Rattle.table_sets.specs.Codes.{codes_of}
use Rattle.table_sets.proofs.packs.store_seen.Goals as goal

pub returns : goal.returns
returns c =
    let y = c.args.x in
    seen_written c.args.s.now (search rules) c.args.p.at c.copy_from_slice.new.self (seen_in y) (search rules) (ap length c.copy_from_slice.ensures.after)
    (rw (
      c.copy_from_slice.ensures.after,
      c.code_if.ensures,
      c.code_if-2.ensures,
      c.code_if-3.ensures,
      c.code_if-4.ensures,
    ) (codes_of y.shown y.len _
    (search rules)))
