-- `pack_source::fronts::least_of` meets its contract: after each turn it has the least of those from k on.
use mathlib.Core.Path.{◌≡◌}
use mathlib.Core.List.{map}
use lib.ListN.{take, drop}
use Rattle.rules.specs.Operators.{least}
use Rattle.batches.specs.Batch.{batch_of}
use Rattle.pack_source.proofs.fronts.least_of.Given as goal

abbrev pub invariant-loop-k : goal.invariant-loop-k
invariant-loop-k l = l.rows ≡ least (drop l.k (map batch_of (take l.n l.batches)))
