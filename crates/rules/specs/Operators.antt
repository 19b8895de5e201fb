-- Document 01, "Lowering" and "Driver": what sources and the cutting stage answer, from what they are told of their inlets.
use Rattle.std.specs.Prelude.{Bool, true, false, ◌&&◌, ◌||◌, not, ℕ, zero, suc, ◌+◌, min, length, eqb, ltb, if◌then◌else◌}
use mathlib.Core.List.{List, [], ◌∷◌, flat_map}
use Rattle.rules.specs.Table.{filter}
use Rattle.rules.specs.Job.{Run}
use Rattle.rules.specs.Plan.{Piece}
use Rattle.rules.specs.InletSet.{InletSet, insert, remove}
use Rattle.rules.specs.Port.{Batch, Seen, waiting, ready, ended}

-- "blocked is on IO or on a numbered inlet"
pub data Blocked : Type 0 where
  io : Blocked
  inlet : ℕ → Blocked

-- "A stopped pipeline is runnable, stopped at its outlet, or blocked"
pub data State : Type 0 where
  runnable : State
  blocked : Blocked → State
  outlet : State

-- What a source answers when it is tested.
pub data SourceReady : Type 0 where
  go : SourceReady
  stays : Blocked → SourceReady

-- What a source or a stage gives.
pub data Step : Type 0 where
  end : Step
  more : Batch → Step
  final : Batch → Step

-- Where a pipeline's rows come from: a segment source (requested, delivered and not used yet, runs emitted), `ConcatSource` (its
-- current inlet), `PackSource`.
pub data Source : Type 0 where
  segment : Bool → Bool → ℕ → Source
  concat : ℕ → Source
  pack : Source

-- a segment source's bytes have come: they are there, or a run was emitted of them
abbrev pub bytes_came : Bool → ℕ → Bool
bytes_came bytes emitted = bytes || ltb 0 emitted

-- "a segment source requests its read when first tested and blocks on IO; once delivered it emits"
abbrev pub segment_ready : Bool → Bool → ℕ → SourceReady
segment_ready asked bytes emitted = if asked && bytes_came bytes emitted then go else stays io

-- a run of a segment, as a batch
abbrev pub run_batch : ℕ → Run → Batch
run_batch g r = record { rows = r.size; cells = record { segment = g; row = r.start } ∷ [] }

abbrev pub piece_batch : Piece → Batch
piece_batch a = run_batch a.segment a.run

-- a batch that another of its leaf follows, or not
abbrev pub more_if : Bool → Batch → Step
more_if true b = more b
more_if false b = final b

-- "it emits its kept runs, a batch each, More before the last, Final for the last, then End": what comes of run k and those after it. The
-- last is that of its leaf.
unfoldable pub emit : List Piece → ℕ → Step
emit [] k = end
emit (a ∷ []) zero = final (piece_batch a)
emit (a ∷ b ∷ ps) zero = more_if (eqb b.leaf a.leaf) (piece_batch a)
emit (a ∷ ps) (suc k) = emit ps k

-- the first inlet from i on that has not ended, of the n that are left: an empty one that is open has not ended
unfoldable pub concat_at : (ℕ → Seen) → ℕ → ℕ → ℕ
concat_at shows zero i = i
concat_at shows (suc n) i = elim (shows i) [ ended ↦ concat_at shows n (suc i) | waiting ↦ i | ready ↦ i ]

-- at that inlet, or past the last of n
abbrev pub concat_ready : (ℕ → Seen) → ℕ → ℕ → SourceReady
concat_ready shows n i = if ltb i n then elim (shows i) [ waiting ↦ stays (inlet i) | ready ↦ go | ended ↦ go ] else go

-- a pack notes what an inlet shows: its waiting set
abbrev pub noted : Seen → ℕ → InletSet → InletSet
noted waiting i w = insert i w
noted ready i w = remove i w
noted ended i w = remove i w

abbrev pub is_ended : Seen → Bool
is_ended waiting = false
is_ended ready = false
is_ended ended = true

-- how many of the inlets have ended
abbrev pub ended_count : List Seen → ℕ
ended_count seen = length (filter is_ended seen)

-- fields that ended at different rows: some have ended, and not all the others wait
abbrev pub pack_fault : List Seen → InletSet → Bool
pack_fault seen w = ltb 0 (ended_count seen) && not (eqb (ended_count seen + length w) (length seen))

-- "A pack … blocks on the last in its waiting set."
unfoldable pub pack_ready : InletSet → SourceReady
pack_ready [] = go
pack_ready (i ∷ w) = stays (inlet i)

-- the least number of rows among the batches
unfoldable pub least : List Batch → ℕ
least [] = 0
least (b ∷ []) = b.rows
least (b ∷ c ∷ bs) = min b.rows (least (c ∷ bs))

-- "a pack's row joins the fields' rows": the first n rows of every batch, side by side
abbrev pub side_by_side : ℕ → List Batch → Batch
side_by_side n bs = record { rows = n; cells = flat_map (λ (b : Batch). b.cells) bs }
