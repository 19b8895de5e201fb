-- `tables::front::machine` meets its contract.
use mathlib.Core.Path.{◌≡◌, ap, ◌∙◌}
use lib.ListN.{take}
use Rattle.tables.specs.View.{view, machine_len}
use Rattle.tables.specs.Front.{view_take}
use borrow.Author.Rules.{rules}
use Rattle.tables.proofs.front.machine.Goals as goal

pub returns-clause-same_view : goal.returns-clause-same_view
returns-clause-same_view c =
    let e : c.unwrap.result.now ≡ take machine_len c.args.s.now = search rules in ap view e ∙ view_take c.args.s.now c.requires
