-- `check_lists::reads::reads_ok` meets its contract: what is left to test has the same answer.
use mathlib.Core.Path.{sym, ◌∙◌}
use borrow.Author.Rules.{rules}
use Rattle.rules.specs.Check.{read_ok}
use Rattle.tables.specs.View.{view}
use Rattle.rules.specs.Machine.{no_read}
use Rattle.numbers.specs.Loops.{all_pass, all_fail, all_none}
use Rattle.check_lists.proofs.reads.reads_ok.Goals as goal

pub returns-then-not-read_ok : goal.returns-then-not-read_ok
returns-then-not-read_ok c =
    sym (c.loop-k.invariant ∙ all_fail (read_ok (view c.args.s.now)) no_read (view c.args.s.now).reads c.loop-k.k (search rules)
    (sym c.if-not-read_ok.true ∙ c.read_ok.ensures))

pub loop-k-preserved : goal.loop-k-preserved
loop-k-preserved c =
    c.loop-k.invariant ∙ all_pass (read_ok (view c.args.s.now)) no_read (view c.args.s.now).reads c.loop-k.k (search rules)
    (sym c.if-not-read_ok.false ∙ c.read_ok.ensures)

pub returns : goal.returns
returns c =
    sym (c.loop-k.invariant ∙ all_none (read_ok (view c.args.s.now)) (view c.args.s.now).reads c.loop-k.k (search rules))
