-- `table_ports::ports::store_port` meets its contract.
use mathlib.Core.Path.{ap}
use lib.ListN.{length}
use Rattle.tables.specs.Written.{port_written}
use Rattle.table_ports.specs.Ports.{port_of, port_back}
use borrow.Author.Rules.{rules}
use Rattle.table_ports.proofs.ports.store_port.Goals as goal

pub returns : goal.returns
returns c =
    let x = c.args.v in
    let e = c.copy_from_slice.ensures.after in
    port_written c.args.s.now (search rules) c.args.x.at c.copy_from_slice.new.self (port_of x) (search rules) (ap length e)
    (rw (e, c.from.ensures, c.from-2.ensures, c.from-3.ensures, c.reader_bytes-reader.ensures) (port_back x))
