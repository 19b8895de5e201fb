use Rattle.waking.specs.Mark.{tell_nobody, tell_slot, tell_pipe}
use mathlib.Core.Path.{◌∙◌, refl, ap}
use Rattle.table_ports.specs.Ports.{reader_of}
use Rattle.tables.specs.View.{view}
use Rattle.waking.proofs.mark.tell.Goals as goal

pub returns-in-Nobody : goal.returns-in-Nobody
returns-in-Nobody c =
    (tell_nobody (view c.args.s.now) c.args.x.at (reader_of c.args.reader) (ap reader_of c.in-Nobody.is), refl)

pub returns-in-Slot : goal.returns-in-Slot
returns-in-Slot c = (
  c.mark_dirty.ensures.0 ∙ tell_slot (view c.args.s.now) c.args.x.at _ (reader_of c.args.reader) (ap reader_of c.in-Slot.is) refl,
  c.mark_dirty.ensures.1,
)

pub returns-in-Pipe : goal.returns-in-Pipe
returns-in-Pipe c = (
  c.tell_reader.ensures.becomes.0 ∙ tell_pipe (view c.args.s.now) c.args.x.at _ _ c.from.result (reader_of c.args.reader) (ap reader_of c.in-Pipe.is) c.from.ensures,
  c.tell_reader.ensures.becomes.1,
)
