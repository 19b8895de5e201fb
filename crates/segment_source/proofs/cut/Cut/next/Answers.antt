-- `segment_source::cut::Cut::next` meets its contract.
use native.Mathlib.Omega.{arith}
use Rattle.segment_source.specs.StepLaws.{cut_end, cut_next}
use Rattle.segment_source.proofs.cut.Cut.next.Goals as goal

pub returns-then-k-len : goal.returns-then-k-len
returns-then-k-len c = cut_end _ _ _ c.len.ensures _ (rw c.from-k.ensures at c.emit-step.ensures) (omega arith)

pub returns : goal.returns
returns c = cut_next _ _ _ c.len.ensures _ (rw c.from-k.ensures at c.emit-step.ensures) (omega arith)
