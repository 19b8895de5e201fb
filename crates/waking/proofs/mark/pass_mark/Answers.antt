use Rattle.waking.specs.Mark.{mark_none, mark_some}
use mathlib.Core.Path.{◌∙◌, refl}
use Rattle.table_ports.specs.Ports.{port_of}
use Rattle.tables.specs.View.{view}
use Rattle.waking.proofs.mark.pass_mark.Goals as goal

pub returns-then-not-v : goal.returns-then-not-v
returns-then-not-v c =
    (mark_none (view c.args.s.now) c.args.x.at (port_of c.load_port-v.result) c.load_port-v.ensures c.if-not-v.true, refl)

pub returns : goal.returns
returns c = (
  rw (c.tell.ensures.0, c.store_port.ensures.0) (mark_some (view c.args.s.now) c.args.x.at (port_of c.load_port-v.result) (port_of c.unmarked.result)
      c.load_port-v.ensures c.if-not-v.false c.unmarked.ensures),
  c.tell.ensures.1 ∙ c.store_port.ensures.1,
)
