-- `check_lists::stacks::ready_ok` meets its contract: what is left to test has the same answer.
use mathlib.Core.Path.{sym, ap, ◌∙◌}
use borrow.Author.Rules.{rules}
use mathlib.Core.Bool.{◌&&◌}
use lib.Dec.{ltb}
use Rattle.rules.specs.Machine.{live}
use Rattle.tables.specs.View.{view}
use Rattle.numbers.specs.Loops.{all_pass, all_fail, all_none}
use Rattle.check_lists.proofs.stacks.ready_ok.Goals as goal

pub returns-then-not-lives : goal.returns-then-not-lives
returns-then-not-lives c =
    sym (c.loop-k.invariant ∙ all_fail (λ p. ltb p 96 && live (view c.args.s.now) p) 0 (view c.args.s.now).ready c.loop-k.k (search rules)
    (sym c.if-not-lives.true ∙ c.lives.ensures ∙ ap (λ p. ltb p 96 && live (view c.args.s.now) p) c.at.ensures))

pub loop-k-preserved : goal.loop-k-preserved
loop-k-preserved c =
    c.loop-k.invariant ∙ all_pass (λ p. ltb p 96 && live (view c.args.s.now) p) 0 (view c.args.s.now).ready c.loop-k.k (search rules)
    (sym c.if-not-lives.false ∙ c.lives.ensures ∙ ap (λ p. ltb p 96 && live (view c.args.s.now) p) c.at.ensures)

pub returns : goal.returns
returns c =
    sym (c.loop-k.invariant ∙ all_none (λ p. ltb p 96 && live (view c.args.s.now) p) (view c.args.s.now).ready c.loop-k.k (search rules))
