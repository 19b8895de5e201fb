-- `layout::stack::settle` meets its contract.
use Rattle.layout.specs.Stack.{settled}
use borrow.Author.Rules.{rules}
use Rattle.layout.proofs.stack.settle.Goals as goal

pub returns-then-r-from-clause-r_unchanged : goal.returns-then-r-from-clause-r_unchanged
returns-then-r-from-clause-r_unchanged c = (settled c.args.r.now (search rules) (search rules)).0
