-- `layout::stack::len` meets its contract.
use Rattle.layout.specs.Stack.{len_out, len_in}
use borrow.Author.Rules.{rules}
use Rattle.layout.proofs.stack.len.Goals as goal

pub returns-then-r-n : goal.returns-then-r-n
returns-then-r-n c = len_out c.args.r.now c.from-n.result (search rules) c.from-n.ensures (search rules)

pub returns-else-r-n : goal.returns-else-r-n
returns-else-r-n c = len_in c.args.r.now c.from-n.result c.from-n.ensures (search rules)
