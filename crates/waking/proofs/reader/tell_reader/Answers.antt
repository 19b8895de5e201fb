use Rattle.waking.specs.Reader.{reader_dead, reader_past, reader_on, reader_off}
use mathlib.Core.Path.{◌∙◌, ap, refl}
use Rattle.operator.specs.Pipeline.{pipeline_of}
use Rattle.tables.specs.Lengths.{pipe_past}
use Rattle.rules.specs.Machine.{Pipeline}
use Rattle.tables.specs.View.{view}
use Rattle.waking.proofs.reader.tell_reader.Goals as goal

pub returns-then-p-ge96-clause-becomes : goal.returns-then-p-ge96-clause-becomes
returns-then-p-ge96-clause-becomes c =
    (reader_dead (view c.args.s.now) c.args.p c.args.i (ap (λ (y : Pipeline). y.live) (pipe_past c.args.s.now c.args.p c.if-p-ge96.true)), refl)

pub returns-then-not-v-clause-becomes : goal.returns-then-not-v-clause-becomes
returns-then-not-v-clause-becomes c =
    (reader_past (view c.args.s.now) c.args.p c.args.i (pipeline_of c.load_pipe-v.result) c.load_pipe-v.ensures c.if-not-v.true, refl)

pub returns-then-is_on-clause-becomes : goal.returns-then-is_on-clause-becomes
returns-then-is_on-clause-becomes c = (
  rw (c.make_runnable.ensures.0, c.note_change.ensures.0) (reader_on (view c.args.s.now) c.args.p c.args.i (pipeline_of c.load_pipe-v.result)
      c.is_on.result c.load_pipe-v.ensures c.if-not-v.false c.is_on.ensures c.if-is_on.true),
  c.make_runnable.ensures.1 ∙ c.note_change.ensures.1,
)

pub returns-else-is_on-clause-becomes : goal.returns-else-is_on-clause-becomes
returns-else-is_on-clause-becomes c = (
  c.note_change.ensures.0 ∙ reader_off (view c.args.s.now) c.args.p c.args.i (pipeline_of c.load_pipe-v.result) c.is_on.result
      c.load_pipe-v.ensures c.if-not-v.false c.is_on.ensures c.if-is_on.false,
  c.note_change.ensures.1,
)
