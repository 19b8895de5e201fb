-- `layout::stack::pop` meets its contract.
use Rattle.layout.specs.Stack.{stack_pop, stack_none}
use mathlib.Core.Path.{refl, ap, ◌∙◌}
use lib.ListN.{drop}
use borrow.Author.Rules.{rules}
use Rattle.layout.proofs.stack.pop.Goals as goal

pub returns-then-r-gt0 : goal.returns-then-r-gt0
returns-then-r-gt0 c =
    stack_pop c.settle.new.r c.settle.ensures.r_in_bounds (search rules) ∙ ap (drop 1) c.settle.ensures.r_unchanged

pub returns-else-r-gt0 : goal.returns-else-r-gt0
returns-else-r-gt0 c =
    let n = stack_none c.settle.new.r c.settle.ensures.r_in_bounds (search rules) in
    rw (← c.settle.ensures.r_unchanged, n) refl
