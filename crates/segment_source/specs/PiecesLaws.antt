-- Why the answers on the runs of a leaf are right.
use Rattle.std.specs.Prelude.{◌≡◌, Bool, true, false, length, get_or, take, eqb}
use Rattle.std.proofs.Math.Path.{refl}
use Rattle.std.proofs.Common.{sym, ◌∙◌, not-suc-le-zero, arith, eq-eqb}
use mathlib.Core.List.{List, [], ◌∷◌, map}
use Prim.Native.Nat.{ℕ, zero, suc, ◌+◌, ◌≤◌, ◌<◌, min}
use Rattle.std.proofs.lemmas.List.{length-map}
use Rattle.rules.specs.Job as rules
use Rattle.rules.specs.Plan.{Piece, pieces_of}
use Rattle.rules.specs.Port as rows
use Rattle.rules.specs.Operators.{end, more, final, piece_batch, more_if, emit}
use Rattle.rules.specs.Drive.{is_end}
use Rattle.numbers.specs.Arrays.{count_is, in_use}
use Rattle.jobs.specs.Job.{run_of}
use Rattle.segment_source.specs.declared.pieces.Pieces.{Pieces}
use Rattle.segment_source.specs.Pieces.{pieces_in, no_run}

-- behind the last run
pub emit_end : (ps : List Piece) (k : ℕ) → length ps ≤ k → emit ps k ≡ end
unfolding emit
emit_end [] k h = refl
emit_end (a ∷ []) zero h = absurd (not-suc-le-zero h)
emit_end (a ∷ b ∷ ps) zero h = absurd (not-suc-le-zero h)
emit_end (a ∷ []) (suc k) h = refl
emit_end (a ∷ b ∷ ps) (suc k) h = emit_end (b ∷ ps) k (omega arith)

-- a run, and no end
more_not : (c : Bool) (b : rows.Batch) → is_end (more_if c b) ≡ false
more_not true b = refl
more_not false b = refl

pub emit_not : (ps : List Piece) (k : ℕ) → k < length ps → is_end (emit ps k) ≡ false
unfolding emit
emit_not [] k h = absurd (not-suc-le-zero h)
emit_not (a ∷ []) zero h = refl
emit_not (a ∷ b ∷ ps) zero h = more_not (eqb b.leaf a.leaf) (piece_batch a)
emit_not (a ∷ []) (suc k) h = absurd (omega arith)
emit_not (a ∷ b ∷ ps) (suc k) h = emit_not (b ∷ ps) k (omega arith)

-- a run of the leaf l, of segment g
abbrev pub piece : ℕ → ℕ → rules.Run → Piece
piece l g r = record { leaf = l; segment = g; run = r }

-- all runs are of one leaf: More before the last of all
module _ (l g : ℕ) where
  emit_more : (rs : List rules.Run) (k : ℕ) (d : rules.Run) → k + 1 < length rs → emit (pieces_of l g rs) k ≡ more (piece_batch (piece l g (get_or rs k d)))
  unfolding emit
  emit_more [] k d h = absurd (not-suc-le-zero h)
  emit_more (r ∷ []) zero d h = absurd (omega arith)
  emit_more (r ∷ q ∷ rs) zero d h = rw (eq-eqb l l refl)
  emit_more (r ∷ []) (suc k) d h = absurd (omega arith)
  emit_more (r ∷ q ∷ rs) (suc k) d h = emit_more (q ∷ rs) k d (omega arith)

  emit_last : (rs : List rules.Run) (k : ℕ) (d : rules.Run) → k + 1 ≡ length rs → emit (pieces_of l g rs) k ≡ final (piece_batch (piece l g (get_or rs k d)))
  unfolding emit
  emit_last [] k d h = absurd (omega arith)
  emit_last (r ∷ []) zero d h = refl
  emit_last (r ∷ q ∷ rs) zero d h = absurd (omega arith)
  emit_last (r ∷ []) (suc k) d h = absurd (omega arith)
  emit_last (r ∷ q ∷ rs) (suc k) d h = emit_last (q ∷ rs) k d (omega arith)

-- how many of an array of n runs count
pub pieces_count : (t : Pieces) (n : ℕ) → length t.runs ≡ n → length (pieces_in t) ≡ min t.len n
pieces_count t n long = length-map (map run_of (take t.len t.runs)) (piece t.leaf t.segment.0) ∙ count_is run_of t.len t.runs n long

module _ (t : Pieces) (n : ℕ) (c : n ≡ length (pieces_in t)) where
  abbrev runs_in : List rules.Run
  runs_in = map run_of (take t.len t.runs)

  many : n ≡ length runs_in
  many = c ∙ length-map runs_in (piece t.leaf t.segment.0)

  run_is : (k : ℕ) → k < n → get_or runs_in k (run_of no_run) ≡ run_of (get_or t.runs k no_run)
  run_is k h =
      let m = pieces_count t (length t.runs) refl in
      in_use run_of t.len t.runs no_run k (omega arith)

  abbrev batch_at : ℕ → rows.Batch
  batch_at k = piece_batch (piece t.leaf t.segment.0 (run_of (get_or t.runs k no_run)))

  -- answers: k is behind the last run, before it, or it
  pub end_is : (k : ℕ) → n ≤ k → end ≡ emit (pieces_in t) k
  end_is k h = sym (emit_end (pieces_in t) k (rw c at h))

  pub more_is : (k : ℕ) (b : rows.Batch) → b ≡ batch_at k → k + 1 < n → more b ≡ emit (pieces_in t) k
  more_is k b e h = rw (emit_more t.leaf t.segment.0 runs_in k (run_of no_run) (rw many at h), e, run_is k (omega arith))

  pub last_is : (k : ℕ) (b : rows.Batch) → b ≡ batch_at k → k < n → n ≤ k + 1 → final b ≡ emit (pieces_in t) k
  last_is k b e h l = rw (emit_last t.leaf t.segment.0 runs_in k (run_of no_run) (omega (arith, many)), e, run_is k h)
