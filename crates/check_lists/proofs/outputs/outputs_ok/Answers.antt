-- `check_lists::outputs::outputs_ok` meets its contract: what is left to test has the same answer.
use mathlib.Core.Path.{sym, ◌∙◌}
use borrow.Author.Rules.{rules}
use Rattle.rules.specs.Check.{output_ok}
use Rattle.tables.specs.View.{view}
use Rattle.tables.specs.Outputs.{no_output}
use Rattle.numbers.specs.Loops.{all_pass, all_fail, all_none}
use Rattle.check_lists.proofs.outputs.outputs_ok.Goals as goal

pub returns-then-not-output_ok : goal.returns-then-not-output_ok
returns-then-not-output_ok c =
    sym (c.loop-k.invariant ∙ all_fail (output_ok (view c.args.s.now)) no_output (view c.args.s.now).outputs c.loop-k.k (search rules)
    (sym c.if-not-output_ok.true ∙ c.output_ok.ensures))

pub loop-k-preserved : goal.loop-k-preserved
loop-k-preserved c =
    c.loop-k.invariant ∙ all_pass (output_ok (view c.args.s.now)) no_output (view c.args.s.now).outputs c.loop-k.k (search rules)
    (sym c.if-not-output_ok.false ∙ c.output_ok.ensures)

pub returns : goal.returns
returns c =
    sym (c.loop-k.invariant ∙ all_none (output_ok (view c.args.s.now)) (view c.args.s.now).outputs c.loop-k.k (search rules))
