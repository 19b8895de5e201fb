-- `node_records::leaf::accept_leaf` meets its contract.
use borrow.Author.Tests.{le-leb, lt-leb}
use Rattle.rules.specs.Job.{accept, unless}
use Rattle.jobs.specs.Job.{front}
use mathlib.Core.Path.{sym, ◌∙◌}
use Rattle.node_records.proofs.leaf.accept_leaf.Goals as goal

pub returns-then-d-ge24-clause-result_value : goal.returns-then-d-ge24-clause-result_value
unfolding accept unless
returns-then-d-ge24-clause-result_value c = rw (sym c.node_late.ensures ∙ c.if-node_late.false, le-leb 24 c.args.d.now.records c.if-d-ge24.true)

pub returns-then-any_other_rows-clause-result_value : goal.returns-then-any_other_rows-clause-result_value
unfolding accept unless front
returns-then-any_other_rows-clause-result_value c =
    rw (sym c.node_late.ensures ∙ c.if-node_late.false, lt-leb 24 c.args.d.now.records c.if-d-ge24.false, ← c.any_other_rows.ensures, c.if-any_other_rows.true)

pub returns-clause-result_value : goal.returns-clause-result_value
unfolding accept unless front
returns-clause-result_value c =
    rw (
      c.new_node.ensures.result_value,
      sym c.node_late.ensures ∙ c.if-node_late.false,
      lt-leb 24 c.args.d.now.records c.if-d-ge24.false,
      ← c.any_other_rows.ensures,
      c.if-any_other_rows.false,
      c.leaf_node.ensures,
    )
