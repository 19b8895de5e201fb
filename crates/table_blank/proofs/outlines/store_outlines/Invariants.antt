-- `table_blank::outlines::store_outlines` meets its contract: the first i splits are written.
use Rattle.jobs.specs.Job.{front}
use Rattle.split_records.specs.Split.{outline_of}
use Rattle.tables.specs.Decode.{split}
use Rattle.table_blank.specs.Filled.{Filled}
use Rattle.table_blank.proofs.outlines.store_outlines.Given as goal

abbrev pub invariant-loop-i : goal.invariant-loop-i
invariant-loop-i l = Filled split 1135 137 16 l.initial.s l.s l.i (front (outline_of l.b) l.splits l.i)
