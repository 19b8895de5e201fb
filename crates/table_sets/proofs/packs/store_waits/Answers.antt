-- `table_sets::packs::store_waits` meets its contract.
use borrow.Author.Rules.{rules}
use Rattle.inlet_set.specs.InletSet.{set_of}
use Rattle.tables.specs.Written.{waits_written}
use Rattle.table_sets.proofs.packs.store_waits.Goals as goal

pub returns : goal.returns
returns c =
    waits_written c.args.s.now (search rules) c.args.p.at c.put_set.new.r (set_of c.args.x) (search rules) (search rules) c.put_set.ensures
