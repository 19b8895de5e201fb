-- `layout::blank::is_blank` meets its contract: of the first bytes it is known.
use mathlib.Core.Path.{◌≡◌}
use lib.ListN.{take}
use Rattle.layout.specs.Blank.{blank}
use Rattle.layout.proofs.blank.is_blank.Given as goal

abbrev pub invariant-loop-b : goal.invariant-loop-b
invariant-loop-b l = l.ok ≡ blank (take l.b-index l.r)
