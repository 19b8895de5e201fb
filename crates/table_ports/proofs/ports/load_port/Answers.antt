-- `table_ports::ports::load_port` meets its contract.
use mathlib.Core.Path.{sym}
use Rattle.tables.specs.Loaded.{port_loaded}
use borrow.Author.Rules.{rules}
use Rattle.table_ports.proofs.ports.load_port.Goals as goal

pub returns : goal.returns
returns c =
    rw c.reader_of.ensures
    (sym (port_loaded c.args.s.now (search rules) c.args.x.at (search rules)))
