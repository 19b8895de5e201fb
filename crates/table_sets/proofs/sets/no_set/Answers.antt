-- `table_sets::sets::no_set` meets its contract.
use mathlib.Core.Path.{refl}
use Rattle.numbers.specs.Newest.{newest}
use Rattle.table_sets.proofs.sets.no_set.Goals as goal

pub returns : goal.returns
unfolding newest
returns c = refl
