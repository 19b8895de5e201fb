-- `check_job::split_ranges::splits_fit` meets its contract.
use Rattle.numbers.specs.Loops.{all_pass, all_fail, all_none}
use Rattle.tables.specs.View.{view}
use Rattle.stored.specs.Walk.{split_fits}
use Rattle.rules.specs.Plan.{no_split}
use native.Mathlib.Omega.{arith}
use mathlib.Core.Path.{sym, ap, ◌∙◌}
use Rattle.check_job.proofs.split_ranges.splits_fit.Goals as goal

pub loop-i-preserved : goal.loop-i-preserved
loop-i-preserved c =
    c.loop-i.invariant ∙ all_pass (split_fits c.load_node-root.result.rows) no_split (view c.args.s.now).job.splits c.loop-i.i
    (omega (arith, c.loop-i-test.true, c.split_count-n.ensures.value))
    (sym c.if-not-split_fits.false ∙ c.split_fits.ensures ∙ ap (split_fits c.load_node-root.result.rows) c.split_record.ensures)

pub returns-then-not-split_fits : goal.returns-then-not-split_fits
returns-then-not-split_fits c =
    sym (c.loop-i.invariant ∙ all_fail (split_fits c.load_node-root.result.rows) no_split (view c.args.s.now).job.splits c.loop-i.i
    (omega (arith, c.loop-i-test.true, c.split_count-n.ensures.value))
    (sym c.if-not-split_fits.true ∙ c.split_fits.ensures ∙ ap (split_fits c.load_node-root.result.rows) c.split_record.ensures))

pub returns : goal.returns
returns c =
    sym (c.loop-i.invariant ∙ all_none (split_fits c.load_node-root.result.rows) (view c.args.s.now).job.splits c.loop-i.i
    (omega (arith, c.loop-i-test.false, c.split_count-n.ensures.value)))
