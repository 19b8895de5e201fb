-- `check_ports::shared::whole` meets its contract.
use mathlib.Core.Path.{sym, ap, ◌∙◌}
use mathlib.Core.Bool.{not, not-not}
use borrow.Author.Rules.{rules}
use Rattle.rules.specs.Table.{is_empty}
use Rattle.rules.specs.Machine.{queue_at}
use Rattle.tables.specs.View.{view}
use Rattle.check_ports.specs.Queues.{whole_is}
use Rattle.check_ports.proofs.shared.whole.Goals as goal

pub returns-then-not-is_full : goal.returns-then-not-is_full
returns-then-not-is_full c =
    let s = c.args.s.now in
    let x = c.args.x.at in
    rw (
      whole_is s (search rules) x (search rules) (search rules),
      ← (ap not (sym (c.if-not-is_full.true) ∙ c.is_full.ensures) ∙ not-not
          (is_empty (queue_at (view s) x))),
      c.if-not-is_full.true,
    )

pub returns-else-not-is_full : goal.returns-else-not-is_full
returns-else-not-is_full c =
    let s = c.args.s.now in
    let x = c.args.x.at in
    rw (
      c.node_rows.ensures,
      whole_is s (search rules) x (search rules) (search rules),
      ← (ap not (sym (c.if-not-is_full.false) ∙ c.is_full.ensures) ∙ not-not (is_empty (queue_at (view s) x))),
    )
