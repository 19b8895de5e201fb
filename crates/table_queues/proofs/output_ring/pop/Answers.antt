-- `table_queues::output_ring::pop` meets its contract.
use mathlib.Core.Path.{sym, ap, ◌∙◌}
use borrow.Author.Tests.{eqb-true}
use lib.ListN.{drop}
use Rattle.queue.specs.Held.{some_left}
use Rattle.tables.specs.Outputs.{outputs_none, outputs_popped}
use borrow.Author.Rules.{rules}
use Rattle.table_queues.proofs.output_ring.pop.Goals as goal

pub returns-then-is_empty : goal.returns-then-is_empty
returns-then-is_empty c =
    rw (
      ← c.settle-q.ensures.r_unchanged,
      outputs_none c.settle-q.new.r c.settle-q.result c.settle-q.ensures.value c.settle-q.ensures.result_value
          (eqb-true _ _ (sym c.is_empty.ensures ∙ c.if-is_empty.true)),
    )

pub returns : goal.returns
returns c =
    let q = c.settle-q.result in
    rw (c.put_ring.ensures, c.popped.ensures)
    (outputs_popped c.settle-q.new.r q c.settle-q.ensures.value c.settle-q.ensures.result_value (search rules)
    (some_left q.count (sym c.is_empty.ensures ∙ c.if-is_empty.false)) ∙ ap (drop 1) c.settle-q.ensures.r_unchanged)
