-- `segment_source::segment::SegmentSource::compute` meets its contract.
use native.Mathlib.Omega.{arith}
use Rattle.segment_source.specs.StepLaws.{source_end, source_next}
use Rattle.segment_source.proofs.segment.SegmentSource.compute.Goals as goal

pub returns-then-k-len : goal.returns-then-k-len
returns-then-k-len c = source_end _ _ _ c.len.ensures _ (rw c.from-k.ensures at c.emit-step.ensures) (omega arith)

pub returns : goal.returns
returns c = source_next _ _ _ c.len.ensures _ (rw c.from-k.ensures at c.emit-step.ensures) (omega arith)
