-- `check_job::split_ranges::runs_fit` meets its contract.
use Rattle.check_job.specs.Splits.{runs_end, runs_hit, runs_miss, run_among, run_number}
use Rattle.jobs.specs.Job.{run_of}
use Rattle.layout.specs.Cut.{cut}
use Rattle.layout.specs.Records.{table}
use Rattle.tables.specs.Decode.{run}
use lib.ListN.{take}
use mathlib.Core.Path.{sym, ◌∙◌}
use native.Mathlib.Omega.{arith}
use Rattle.check_job.proofs.split_ranges.runs_fit.Goals as goal

pub loop-k-preserved : goal.loop-k-preserved
loop-k-preserved c =
    c.loop-k.invariant ∙ runs_miss c.args.size c.loop-k.from (take c.args.n (table run 8 16 (cut 9 137 c.args.r.now))) c.loop-k.k
    (omega (arith, run_number (cut 9 137 c.args.r.now) c.args.n c.requires.n_bound, c.loop-k-test.true)) (run_of c.run-x.result)
    (c.run-x.ensures ∙ run_among (table run 8 16 (cut 9 137 c.args.r.now)) c.args.n c.loop-k.k c.loop-k-test.true) c.run_fits.result c.run_fits.ensures
    c.if-not-run_fits.false c.next_from-from.result c.next_from-from.ensures

pub returns-then-not-run_fits : goal.returns-then-not-run_fits
returns-then-not-run_fits c =
    sym (c.loop-k.invariant ∙ runs_hit c.args.size c.loop-k.from (take c.args.n (table run 8 16 (cut 9 137 c.args.r.now))) c.loop-k.k
    (omega (arith, run_number (cut 9 137 c.args.r.now) c.args.n c.requires.n_bound, c.loop-k-test.true)) (run_of c.run-x.result)
    (c.run-x.ensures ∙ run_among (table run 8 16 (cut 9 137 c.args.r.now)) c.args.n c.loop-k.k c.loop-k-test.true) c.run_fits.result
    c.run_fits.ensures c.if-not-run_fits.true)

pub returns : goal.returns
returns c =
    sym (c.loop-k.invariant ∙ runs_end c.args.size c.loop-k.from (take c.args.n (table run 8 16 (cut 9 137 c.args.r.now)))
    c.loop-k.k (omega (arith, run_number (cut 9 137 c.args.r.now) c.args.n c.requires.n_bound, c.loop-k-test.false)))
