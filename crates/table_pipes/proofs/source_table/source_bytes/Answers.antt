-- `table_pipes::source_table::source_bytes` meets its contract.
use Rattle.tables.specs.Decode.{source, source_from}
use Rattle.table_pipes.specs.Source.{segment_back}
use Rattle.table_pipes.proofs.source_table.source_bytes.Goals as goal

pub returns-in-Segment : goal.returns-in-Segment
returns-in-Segment c = rw (c.in-Segment.is, c.from.ensures, c.from-in-Segment.ensures) (segment_back _ _ _)

pub returns-in-Concat : goal.returns-in-Concat
unfolding source source_from
returns-in-Concat c = rw c.in-Concat.is

pub returns-in-Pack : goal.returns-in-Pack
unfolding source source_from
returns-in-Pack c = rw c.in-Pack.is
