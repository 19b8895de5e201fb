-- `table_blank::outline::copy_runs` meets its contract: k runs are written, y is in hand, and those from i on are to come.
use Prim.Native.Nat.{◌<◌}
use lib.ListN.{take}
use Rattle.jobs.specs.Job.{run_of}
use Rattle.layout.specs.Records.{table}
use Rattle.tables.specs.Decode.{run}
use Rattle.table_blank.specs.Outline.{InHand}
use Rattle.table_blank.proofs.outline.copy_runs.Given as goal

abbrev pub invariant-loop-i : goal.invariant-loop-i
invariant-loop-i l = (l.k < l.i) × InHand l.b l.x l.i (take l.k (table run 8 16 l.r)) (run_of l.y)
