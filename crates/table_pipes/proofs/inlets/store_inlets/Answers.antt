-- `table_pipes::inlets::store_inlets` meets its contract.
use mathlib.Core.Path.{ap, ◌∙◌}
use lib.ListN.{length}
use borrow.Author.Rules.{rules}
use Rattle.tables.specs.Decode.{inlets}
use Rattle.tables.specs.Written.{inlets_written}
use Rattle.table_pipes.specs.Inlets.{inlets_of}
use Rattle.table_pipes.proofs.inlets.store_inlets.Goals as goal

pub returns : goal.returns
returns c =
    inlets_written c.args.s.now (search rules) c.args.p.at c.copy_from_slice.new.self (inlets_of c.args.x) (search rules) (ap length c.copy_from_slice.ensures.after ∙ search rules)
    (ap inlets c.copy_from_slice.ensures.after ∙ c.inlet_bytes.ensures)
