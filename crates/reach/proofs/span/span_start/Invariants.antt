-- `reach::span::span_start` meets its contract.
use mathlib.Core.Path.{◌≡◌}
use Prim.Native.Nat.{◌<◌}
use lib.ListN.{length, drop}
use Rattle.rules.specs.Plan.{span_start}
use Rattle.tables.specs.View.{view}
use Rattle.reach.proofs.span.span_start.Given as goal

abbrev pub invariant-loop-k : goal.invariant-loop-k
invariant-loop-k l = (l.k < length (view l.s).job.splits) × (l.least ≡ span_start (drop l.k (view l.s).job.splits))
