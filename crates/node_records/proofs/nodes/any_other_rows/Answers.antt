-- `node_records::nodes::any_other_rows` meets its contract.
use mathlib.Core.Path.{sym, ◌∙◌}
use Rattle.rules.specs.Job as rule
use Rattle.node_records.proofs.KidLaws.{blank, search_end, search_hit, search_miss}
use Rattle.node_records.proofs.nodes.any_other_rows.Goals as goal

pub returns-then-other_rows : goal.returns-then-other_rows
returns-then-other_rows c =
    sym (c.loop-x.invariant ∙ search_hit (rule.other_rows c.args.g c.args.n) c.args.nodes.now c.loop-x.x-index blank c.loop-x-test.true
    (sym c.other_rows.ensures ∙ c.if-other_rows.true))

pub loop-x-preserved : goal.loop-x-preserved
loop-x-preserved c =
    c.loop-x.invariant ∙ search_miss (rule.other_rows c.args.g c.args.n) c.args.nodes.now c.loop-x.x-index blank c.loop-x-test.true
    (sym c.other_rows.ensures ∙ c.if-other_rows.false)

pub returns : goal.returns
returns c = sym (c.loop-x.invariant ∙ search_end (rule.other_rows c.args.g c.args.n) c.args.nodes.now c.loop-x.x-index c.loop-x-test.false)
