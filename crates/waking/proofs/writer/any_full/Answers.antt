-- `waking::writer::any_full` meets its contract.
use mathlib.Core.Path.{◌∙◌, sym}
use Rattle.std.proofs.lemmas.Bool.{le-ltb}
use Rattle.order.specs.Outlets.{never_full, full_me}
use Rattle.tables.specs.View.{view}
use Rattle.waking.proofs.writer.any_full.Goals as goal

pub returns-then-p-lt72 : goal.returns-then-p-lt72
returns-then-p-lt72 c =
    c.queue_full.ensures ∙ sym (full_me c.args.p.at (view c.args.s.now) c.if-p-lt72.true)

pub returns-else-p-lt72 : goal.returns-else-p-lt72
returns-else-p-lt72 c = le-ltb c.args.p.at 72 c.if-p-lt72.false ∙ sym (never_full (view c.args.s.now) c.args.p.at c.if-p-lt72.false)
