use Rattle.waking.specs.Writer.{writer_shared, writer_on, writer_off}
use mathlib.Core.Path.{◌∙◌, refl}
use Rattle.tables.specs.View.{view}
use Rattle.waking.proofs.writer.wake_writer.Goals as goal

pub returns-then-x-ge72 : goal.returns-then-x-ge72
returns-then-x-ge72 c = (writer_shared (view c.args.s.now) c.args.x c.if-x-ge72.true, refl)

pub returns-then-can_write : goal.returns-then-can_write
returns-then-can_write c = (
  c.make_runnable.ensures.0 ∙ writer_on (view c.args.s.now) c.args.x c.can_write.result c.if-x-ge72.false c.can_write.ensures c.if-can_write.true,
  c.make_runnable.ensures.1,
)

pub returns-else-can_write : goal.returns-else-can_write
returns-else-can_write c =
    (writer_off (view c.args.s.now) c.args.x c.can_write.result c.if-x-ge72.false c.can_write.ensures c.if-can_write.false, refl)
