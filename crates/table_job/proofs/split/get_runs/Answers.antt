-- `table_job::split::get_runs` meets its contract.
use Prim.Native.Nat.{◌*◌}
use mathlib.Core.List.{[]}
use mathlib.Core.Path.{refl, sym, ◌∙◌}
use native.Mathlib.Omega.{arith}
use native.Mathlib.Numerals.{add-one}
use Rattle.layout.specs.Stored.{part_is}
use lib.ListN.{length-set}
use Rattle.jobs.specs.Job.{run_of}
use Rattle.jobs.proofs.Front.{front_none, front_more}
use Rattle.layout.specs.Records.{table_more}
use Rattle.tables.specs.Decode.{run}
use Rattle.table_job.proofs.split.get_runs.Goals as goal

pub loop-i-init : goal.loop-i-init
loop-i-init c = (refl, front_none run_of _)

pub loop-i-preserved : goal.loop-i-preserved
loop-i-preserved c = (
  length-set c.loop-i.runs c.loop-i.i c.get_run.result ∙ c.loop-i.invariant.0,
  front_more run_of c.loop-i.runs c.loop-i.i c.get_run.result (omega (arith, c.loop-i.invariant.0)) ∙ rw
      (c.loop-i.invariant.1, c.get_run.ensures, part_is c.args.r.now (c.loop-i.i * 8) 8, add-one c.loop-i.i)
      (sym (table_more run 8 16 c.args.r.now c.loop-i.i (run []) (omega arith))),
)
