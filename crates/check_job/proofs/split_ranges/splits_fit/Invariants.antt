-- `check_job::split_ranges::splits_fit` meets its contract.
use Rattle.tables.specs.View.{view}
use Rattle.stored.specs.Fits.{splits_fit}
use Rattle.stored.specs.Walk.{split_fits}
use Rattle.rules.specs.Table.{all}
use lib.ListN.{drop}
use mathlib.Core.Path.{◌≡◌}
use Rattle.check_job.proofs.split_ranges.splits_fit.Given as goal

abbrev pub invariant-loop-i : goal.invariant-loop-i
invariant-loop-i l = (splits_fit (view l.s).job ≡ all (split_fits l.root.rows) (drop l.i (view l.s).job.splits))
