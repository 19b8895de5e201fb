-- `check_lists::stacks::freed_ok` meets its contract: what is left to test has the same answer.
use mathlib.Core.Path.{sym, ◌∙◌}
use native.Mathlib.Omega.{arith}
use borrow.Author.Rules.{rules}
use borrow.Author.Tests.{lt-ltb, le-ltb}
use lib.Dec.{ltb}
use Rattle.rules.specs.Table.{get}
use Rattle.tables.specs.View.{view}
use Rattle.numbers.specs.Loops.{all_pass, all_fail, all_none}
use Rattle.check_lists.proofs.stacks.freed_ok.Goals as goal

pub returns-then-made-at : goal.returns-then-made-at
returns-then-made-at c =
    let xs = (view c.args.s.now).freed in
    sym (c.loop-k.invariant ∙ all_fail (λ n. ltb n (view c.args.s.now).made) 0 xs c.loop-k.k (search rules)
    (sym (le-ltb (get 0 xs c.loop-k.k) (view c.args.s.now).made (omega (arith, c.at.ensures, c.from-made.ensures, c.made.ensures, c.if-made-at.true)))))

pub loop-k-preserved : goal.loop-k-preserved
loop-k-preserved c =
    let xs = (view c.args.s.now).freed in
    c.loop-k.invariant ∙ all_pass (λ n. ltb n (view c.args.s.now).made) 0 xs c.loop-k.k (search rules)
    (sym (lt-ltb (get 0 xs c.loop-k.k) (view c.args.s.now).made (omega (arith, c.at.ensures, c.from-made.ensures, c.made.ensures, c.if-made-at.false))))

pub returns : goal.returns
returns c = sym (c.loop-k.invariant ∙ all_none (λ n. ltb n (view c.args.s.now).made) (view c.args.s.now).freed c.loop-k.k (search rules))
