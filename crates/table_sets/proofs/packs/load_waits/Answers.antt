-- `table_sets::packs::load_waits` meets its contract.
use mathlib.Core.Path.{sym, ap, ◌∙◌}
use Prim.Native.Nat.{◌+◌, ◌*◌}
use borrow.Author.Rules.{rules}
use Rattle.layout.specs.Numbers.{stack}
use Rattle.tables.specs.Loaded.{waits_loaded}
use Rattle.layout.specs.Stored.{part_is}
use Rattle.table_sets.proofs.packs.load_waits.Goals as goal

pub returns : goal.returns
returns c =
    c.get_set.ensures ∙ ap stack (part_is c.args.s.now (13887 + c.args.p.at * 5) 5) ∙ sym (waits_loaded c.args.s.now (search rules) c.args.p.at (search rules))
