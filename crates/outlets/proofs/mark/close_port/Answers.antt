use Rattle.outlets.specs.Close.{port_set}
use Rattle.tables.specs.View.{view}
use Rattle.table_ports.specs.Ports.{port_of}
use Rattle.rules.specs.Ports.{closed_now}
use mathlib.Core.Path.{◌∙◌}
use Rattle.outlets.proofs.mark.close_port.Goals as goal

pub returns : goal.returns
returns c = (
  c.store_port.ensures.0 ∙ port_set (view c.args.s.now) c.args.x.at closed_now (port_of c.load_port-v.result) (port_of c.closed_now.result)
      c.load_port-v.ensures c.closed_now.ensures,
  c.store_port.ensures.1,
)
