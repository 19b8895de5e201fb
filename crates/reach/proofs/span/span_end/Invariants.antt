-- `reach::span::span_end` meets its contract.
use mathlib.Core.Path.{◌≡◌}
use Prim.Native.Nat.{◌≤◌}
use lib.ListN.{length, drop}
use Rattle.rules.specs.Plan.{span_end}
use Rattle.tables.specs.View.{view}
use Rattle.reach.proofs.span.span_end.Given as goal

abbrev pub invariant-loop-k : goal.invariant-loop-k
invariant-loop-k l = (l.k ≤ length (view l.s).job.splits) × (l.most ≡ span_end (drop l.k (view l.s).job.splits))
