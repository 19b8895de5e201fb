-- `node_records::join::differ` meets its contract.
use mathlib.Core.Path.{sym, ◌∙◌}
use borrow.Author.Tests.{eq-eqb, ne_eqb}
use Rattle.node_records.specs.Kids.{differs}
use Rattle.node_records.proofs.KidLaws.{blank, any_end, any_kid, no_kid}
use Rattle.node_records.proofs.join.differ.Goals as goal

pub returns-then-measure-v : goal.returns-then-measure-v
returns-then-measure-v c =
    sym (c.loop-c.invariant ∙ any_kid c.args.nodes.now c.args.kids.now c.loop-c.c-index c.loop-c-test.true c.requires c.from.result c.from.ensures blank
    (differs c.args.rows c.args.v) (rw (← c.measure.ensures.value, ne_eqb c.measure.result c.args.v c.if-measure-v.true)))

pub loop-c-preserved : goal.loop-c-preserved
loop-c-preserved c =
    c.loop-c.invariant ∙ no_kid c.args.nodes.now c.args.kids.now c.loop-c.c-index c.loop-c-test.true c.requires c.from.result c.from.ensures blank
    (differs c.args.rows c.args.v) (rw (← c.measure.ensures.value, eq-eqb c.measure.result c.args.v c.if-measure-v.false))

pub returns : goal.returns
returns c =
    sym (c.loop-c.invariant ∙ any_end c.args.nodes.now c.args.kids.now c.loop-c.c-index (differs c.args.rows c.args.v) c.loop-c-test.false)
