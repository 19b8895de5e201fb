-- `table_ports::ports::reader_of` meets its contract.
use Rattle.tables.specs.Decode.{reader_from}
use native.Mathlib.Omega.{arith}
use Rattle.table_ports.specs.Ports.{reader_else}
use Rattle.table_ports.proofs.ports.reader_of.Goals as goal

pub returns-in-0 : goal.returns-in-0
unfolding reader_from
returns-in-0 c = rw c.in-0.is

pub returns-in-1 : goal.returns-in-1
unfolding reader_from
returns-in-1 c = rw c.in-1.is

pub returns-in-2 : goal.returns-in-2
unfolding reader_from
returns-in-2 c = rw c.in-2.is

pub returns-in_default : goal.returns-in_default
unfolding reader_from
returns-in_default c = reader_else c.args.tag _ _ (omega arith) (omega arith) (omega arith)
