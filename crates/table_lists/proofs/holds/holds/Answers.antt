-- `table_lists::holds::holds` meets its contract.
use Rattle.std.specs.Prelude.{◌≡◌, ◌+◌, ◌-◌}
use Rattle.std.proofs.Common.{◌∙◌, arith}
use Rattle.table_lists.specs.Stacks.{holds_out, holds_in}
use Rattle.table_lists.proofs.holds.holds.Goals as goal

pub returns-then-r-n : goal.returns-then-r-n
returns-then-r-n c = holds_out c.args.r.now c.from-n.result c.args.k c.requires c.from-n.ensures c.if-r-n.true

pub returns-else-r-n : goal.returns-else-r-n
returns-else-r-n c =
    let n = c.from-n.result in
    let e : n + 1 - 1 ≡ n = omega arith in
    (rw e at c.contains.ensures.value) ∙ holds_in c.args.r.now n c.args.k c.from-n.ensures c.if-r-n.false
