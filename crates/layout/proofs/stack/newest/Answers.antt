-- `layout::stack::newest` meets its contract.
use Rattle.layout.specs.Stack.{top_none, top_out, top_in}
use borrow.Author.Rules.{rules}
use Rattle.layout.proofs.stack.newest.Goals as goal

pub returns-then-n-eq0 : goal.returns-then-n-eq0
returns-then-n-eq0 c = top_none c.args.r.now c.from-n.result (search rules) c.from-n.ensures (search rules)

pub returns-then-r-n : goal.returns-then-r-n
returns-then-r-n c = top_out c.args.r.now c.from-n.result (search rules) c.from-n.ensures (search rules)

pub returns-else-r-n : goal.returns-else-r-n
returns-else-r-n c = top_in c.args.r.now c.from-n.result c.from-n.ensures (search rules) (search rules)
