-- `check_job::stack::push` meets its contract.
use Rattle.check_job.specs.Stack.{push_more}
use borrow.Author.Rules.{rules}
use Rattle.check_job.proofs.stack.push.Goals as goal

pub returns : goal.returns
returns c = record { free_after = push_more c.args.free.now c.args.top c.args.i (search rules); value = search rules }
