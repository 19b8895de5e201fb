-- `pack_source::fronts::Fronts::least` meets its contract.
use native.Mathlib.Omega.{arith}
use Rattle.pack_source.specs.FrontsLaws.{no_rows}
use Rattle.pack_source.proofs.fronts.Fronts.least.Goals as goal

pub returns-then-n-eq0 : goal.returns-then-n-eq0
returns-then-n-eq0 c = no_rows _ _ c.len-n.ensures (omega arith)
