-- Why the answers of the segment source and the cutting stage are right, where n is how many runs there are.
use Rattle.std.specs.Prelude.{◌≡◌, false, ℕ, ◌+◌, ◌≤◌, ◌<◌, length}
use Rattle.std.proofs.Common.{add-one}
use Rattle.rules.specs.Operators.{emit}
use Rattle.operator.specs.declared.answer.Step.{Step}
use Rattle.operator.specs.Answer.{step_of}
use Rattle.segment_source.specs.declared.pieces.Pieces.{Pieces}
use Rattle.segment_source.specs.declared.segment.SegmentSource.{SegmentSource}
use Rattle.segment_source.specs.declared.cut.Cut.{Cut}
use Rattle.segment_source.specs.Pieces.{pieces_in}
use Rattle.segment_source.specs.PiecesLaws.{emit_end, emit_not}
use Rattle.segment_source.specs.Segment.{Emits}
use Rattle.segment_source.specs.Cut.{Cuts}

module _ (t : Pieces) (x : Step) (n : ℕ) (c : n ≡ length (pieces_in t)) where
  pub source_end : (s : SegmentSource) → step_of x ≡ emit (pieces_in t) s.emitted → n ≤ s.emitted → Emits s t x s
  source_end s e h = record { given = e; source = rw (emit_end (pieces_in t) s.emitted (rw c at h)) }

  pub source_next : (s : SegmentSource) → step_of x ≡ emit (pieces_in t) s.emitted → s.emitted < n
      → Emits s t x (record { asked = s.asked; bytes = false; emitted = s.emitted + 1 })
  source_next s e h = record { given = e; source = rw (emit_not (pieces_in t) s.emitted (rw c at h), add-one s.emitted) }

  pub cut_end : (s : Cut) → step_of x ≡ emit (pieces_in t) s.at → n ≤ s.at → Cuts s t x s
  cut_end s e h = record { given = e; cut = rw (emit_end (pieces_in t) s.at (rw c at h)) }

  pub cut_next : (s : Cut) → step_of x ≡ emit (pieces_in t) s.at → s.at < n
      → Cuts s t x (record { at = s.at + 1 })
  cut_next s e h = record { given = e; cut = rw (emit_not (pieces_in t) s.at (rw c at h), add-one s.at) }
