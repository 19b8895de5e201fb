-- Whatever the source is.
use Rattle.std.specs.Prelude.{◌≡◌, ℕ}
use Rattle.std.proofs.Common.{sym, ◌∙◌, ap}
use Rattle.rules.specs.Machine.{Machine, source_at}
use Rattle.table_pipes.specs.declared.source_table.Source.{Source}
use Rattle.table_pipes.specs.Source.{source_of}

-- the source that was loaded
pub source_is : (m : Machine) (p : ℕ) (x y : Source) → source_of x ≡ source_at m p → x ≡ y → source_at m p ≡ source_of y
source_is m p x y e f = sym e ∙ ap source_of f
