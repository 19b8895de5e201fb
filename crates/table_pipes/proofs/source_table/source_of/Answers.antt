-- `table_pipes::source_table::source_of` meets its contract: each tag picks its case.
use native.Mathlib.Omega.{arith}
use Rattle.tables.specs.Decode.{source_from}
use Rattle.table_pipes.specs.Source.{source_else}
use Rattle.table_pipes.proofs.source_table.source_of.Goals as goal

pub returns-in-0 : goal.returns-in-0
unfolding source_from
returns-in-0 c = rw c.in-0.is

pub returns-in-1 : goal.returns-in-1
unfolding source_from
returns-in-1 c = rw c.in-1.is

pub returns-in-2 : goal.returns-in-2
unfolding source_from
returns-in-2 c = rw c.in-2.is

pub returns-in_default : goal.returns-in_default
returns-in_default c = source_else c.args.tag _ _ _ (omega arith) (omega arith) (omega arith)
