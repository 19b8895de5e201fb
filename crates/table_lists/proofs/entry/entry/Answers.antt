-- `table_lists::entry::entry` meets its contract.
use mathlib.Core.Path.{◌∙◌}
use native.Mathlib.Omega.{arith}
use Rattle.table_lists.specs.Stacks.{entry_out, entry_few, entry_in}
use Rattle.table_lists.proofs.entry.entry.Goals as goal

pub returns-then-r-n : goal.returns-then-r-n
returns-then-r-n c =
    entry_out c.args.r.now c.from-n.result c.args.k c.requires.room c.from-n.ensures c.if-r-n.true c.requires.k_in_bounds

pub overflow_sub-n : goal.overflow_sub-n
overflow_sub-n c =
    let f = entry_few c.args.r.now c.from-n.result c.args.k c.from-n.ensures c.if-r-n.false c.requires.k_in_bounds in omega (arith, f)

pub returns-else-r-n : goal.returns-else-r-n
returns-else-r-n c =
    c.from.ensures ∙ entry_in c.args.r.now c.from-n.result c.args.k c.from-n.ensures c.if-r-n.false c.requires.k_in_bounds
