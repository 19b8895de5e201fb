-- `batches::batch::lowered` meets its contract: the loop goes by `Going`.
use mathlib.Core.Path.{◌≡◌}
use lib.ListN.{length}
use Rattle.batches.specs.Lower.{Going}
use Rattle.batches.proofs.batch.lowered.Given as goal

abbrev pub invariant-loop-i : goal.invariant-loop-i
invariant-loop-i l = (length l.moved ≡ 4) × Going l.first l.n l.count l.i l.moved
