-- The source of a segment's runs.
use Rattle.std.specs.Prelude.{◌≡◌, true, false, not, suc, if◌then◌else◌}
use Rattle.rules.specs.Operators as rules
use Rattle.rules.specs.Drive.{is_end}
use Rattle.operator.specs.declared.answer.Step.{Step}
use Rattle.operator.specs.Answer.{ready_of, step_of}
use Rattle.segment_source.specs.declared.pieces.Pieces.{Pieces}
use Rattle.segment_source.specs.declared.segment.SegmentSource.{SegmentSource}
use Rattle.segment_source.specs.declared.segment.SegmentTest.{SegmentTest}
use Rattle.segment_source.specs.Pieces.{pieces_in}

abbrev pub source_of : SegmentSource → rules.Source
source_of s = rules.segment s.asked s.bytes s.emitted

-- "a segment source requests its read when first tested"
pub record Tests (s : SegmentSource) (r : SegmentTest) : Type 0 where
  pub ready : ready_of r.ready ≡ rules.segment_ready s.asked s.bytes s.emitted
  pub asks : r.asks ≡ not s.asked
  pub source : source_of r.source ≡ rules.segment true s.bytes s.emitted

-- the source behind a step: the bytes are used, and one run more is emitted
abbrev pub source_after : rules.Step → SegmentSource → rules.Source
source_after x s = if is_end x then source_of s else rules.segment s.asked false (suc s.emitted)

pub record Emits (s : SegmentSource) (t : Pieces) (x : Step) (r : SegmentSource) : Type 0 where
  pub given : step_of x ≡ rules.emit (pieces_in t) s.emitted
  pub source : source_of r ≡ source_after (rules.emit (pieces_in t) s.emitted) s
