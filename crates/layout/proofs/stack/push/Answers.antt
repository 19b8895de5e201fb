-- `layout::stack::push` meets its contract.
use Rattle.layout.specs.Stack.{push_in, push_full}
use borrow.Author.Rules.{rules}
use Rattle.layout.proofs.stack.push.Goals as goal

pub returns-then-n-r : goal.returns-then-n-r
returns-then-n-r c =
    let e = c.settle.ensures in
    let r = push_in c.args.r.now c.settle.new.r c.from-n.result c.args.x e.r_unchanged e.r_in_bounds e.r_len_unchanged c.from-n.ensures (search rules) in
    record { value = r.0; r_after = r.1 }

pub returns : goal.returns
returns c =
    let e = c.settle.ensures in
    let r = push_full c.args.r.now c.settle.new.r c.from-n.result c.args.x e.r_unchanged e.r_in_bounds e.r_len_unchanged c.from-n.ensures (search rules) in
    record { value = r.0; r_after = r.1 }
