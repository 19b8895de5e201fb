-- `table_lists::causes::fault_if` meets its contract.
use mathlib.Core.Path.{◌≡◌}
use lib.ListN.{take}
use borrow.Author.Rules.{rules}
use Rattle.rules.specs.Machine.{fault_if}
use Rattle.tables.specs.View.{machine_len}
use Rattle.tables.specs.Front.{becomes_front}
use Rattle.table_lists.proofs.causes.fault_if.Goals as goal

pub returns : goal.returns
returns c =
    let e : c.unwrap.result.now ≡ take machine_len c.args.s.now = search rules in
    becomes_front (fault_if c.args.x) c.args.s.now c.mark_if.new.s c.requires c.mark_if.ensures.size (rw (← e) c.mark_if.ensures.becomes)
