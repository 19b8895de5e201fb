-- `check_lists::reads::news_ok` meets its contract: what is left to test has the same answer.
use mathlib.Core.Path.{sym, ◌∙◌}
use native.Mathlib.Omega.{arith}
use borrow.Author.Rules.{rules}
use borrow.Author.Tests.{lt-ltb, le-ltb}
use lib.Dec.{ltb}
use lib.ListN.{length}
use Rattle.rules.specs.Table.{get}
use Rattle.tables.specs.View.{view}
use Rattle.numbers.specs.Loops.{all_pass, all_fail, all_none}
use Rattle.check_lists.proofs.reads.news_ok.Goals as goal

pub returns-then-reads-new_at : goal.returns-then-reads-new_at
returns-then-reads-new_at c =
    let xs = (view c.args.s.now).news in
    sym (c.loop-k.invariant ∙ all_fail (λ i. ltb i (length (view c.args.s.now).reads)) 0 xs c.loop-k.k (search rules)
    (sym (le-ltb (get 0 xs c.loop-k.k) (length (view c.args.s.now).reads) (omega (arith, c.new_at.ensures, c.read_count-reads.ensures, c.if-reads-new_at.true)))))

pub loop-k-preserved : goal.loop-k-preserved
loop-k-preserved c =
    let xs = (view c.args.s.now).news in
    c.loop-k.invariant ∙ all_pass (λ i. ltb i (length (view c.args.s.now).reads)) 0 xs c.loop-k.k (search rules)
    (sym (lt-ltb (get 0 xs c.loop-k.k) (length (view c.args.s.now).reads) (omega (arith, c.new_at.ensures, c.read_count-reads.ensures, c.if-reads-new_at.false))))

pub returns : goal.returns
returns c = sym (c.loop-k.invariant ∙ all_none (λ i. ltb i (length (view c.args.s.now).reads)) (view c.args.s.now).news c.loop-k.k (search rules))
