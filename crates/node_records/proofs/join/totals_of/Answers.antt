-- `node_records::join::totals_of` meets its contract.
use mathlib.Core.Path.{sym, ◌∙◌}
use Rattle.std.proofs.lemmas.List.{take_rest}
use Rattle.jobs.specs.Job.{kind_of}
use Rattle.node_records.proofs.JoinLaws.{summed_concat, summed_pack}
use Rattle.node_records.proofs.KidLaws.{blank, kids_first}
use Rattle.node_records.proofs.join.totals_of.Goals as goal

pub returns-then-pack : goal.returns-then-pack
returns-then-pack c =
    summed_pack (kind_of c.args.k) _ _ _ (kids_first c.args.nodes.now c.args.kids.now c.requires.some c.requires.kids c.from.result c.from.ensures blank) _ _ _
    (sym c.is_pack-pack.ensures ∙ c.if-pack.true) (rw c.if-pack.true at c.sum-total.ensures) (rw c.if-pack.true at c.measure-first.ensures.value)
    (rw (c.if-pack.true, take_rest c.args.kids.now 1) at c.differ-unequal.ensures)

pub returns-else-pack : goal.returns-else-pack
returns-else-pack c =
    summed_concat (kind_of c.args.k) _ _ _ (kids_first c.args.nodes.now c.args.kids.now c.requires.some c.requires.kids c.from.result c.from.ensures blank) _ _ _
    (sym c.is_pack-pack.ensures ∙ c.if-pack.false) (rw c.if-pack.false at c.measure-first.ensures.value) (rw c.if-pack.false at c.sum-total.ensures)
    (rw (c.if-pack.false, take_rest c.args.kids.now 1) at c.differ-unequal.ensures)
