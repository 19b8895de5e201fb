-- The columns of two batches side by side, and why the arrays of both give them.
use Rattle.std.specs.Prelude.{◌≡◌, Bool, true, false, ℕ, ◌+◌, ◌≤◌, ◌<◌, min, length, take, leb, if◌then◌else◌, Result, Ok, Err}
use Rattle.std.specs.Result.{is_ok}
use Rattle.std.proofs.Common.{sym, ◌∙◌, arith, le-leb, length-take}
use mathlib.Core.List.{List, [], ◌∷◌, flat_map, append-nil}
use Rattle.std.proofs.lemmas.Bool.{lt-leb}
use Rattle.std.proofs.Math.Seq.{paste}
use Rattle.std.proofs.lemmas.List.Edits.{take-paste}
use Rattle.rules.specs.Port as rules
use Rattle.rules.specs.Operators.{side_by_side}
use Rattle.batches.specs.declared.batch.Batch.{Batch}
use Rattle.numbers.specs.Arrays.{take_clamped}
use Rattle.numbers.specs.Opt.{either_of}
use Rattle.batches.specs.Cells.{cells_length, cells_append}
use Rattle.batches.specs.Batch.{batch_of}

-- at most 4 columns
abbrev pub narrow : rules.Batch → rules.Batch → Bool
narrow a b = leb (length a.cells + length b.cells) 4

-- both side by side, or the first itself where that has too many columns
pub record Beside (b other : Batch) (r : Result Batch Batch) : Type 0 where
  pub ok : is_ok r ≡ narrow (batch_of b) (batch_of other)
  pub batch : batch_of (either_of r) ≡ (if narrow (batch_of b) (batch_of other) then side_by_side b.rows (batch_of b ∷ batch_of other ∷ []) else batch_of b)

-- a batch's arrays are four long
pub record Four (b : Batch) : Type 0 where
  pub segment : length b.segment ≡ 4
  pub first : length b.first ≡ 4

pub cells_count : (b : Batch) → Four b → length (batch_of b).cells ≡ min b.width 4
cells_count b f =
    cells_length (take b.width b.segment) (take b.width b.first) (simp (length-take, f.segment, f.first))
    ∙ length-take b.width b.segment ∙ rw f.segment

pub beside_not : (b other : Batch) (mine more : ℕ) → Four b → Four other → mine ≡ min b.width 4 → more ≡ min other.width 4
    → 4 < mine + more → Beside b other (Err b)
beside_not b other mine more f g m o h =
    let e : narrow (batch_of b) (batch_of other) ≡ false =
    lt-leb (length (batch_of b).cells + length (batch_of other).cells) 4 (simp (cells_count b f, cells_count other g) (omega arith)) in
    record { ok = sym e; batch = rw e }

pub beside_is : (b other : Batch) (mine more : ℕ) (segment first : List ℕ) → Four b → Four other → mine ≡ min b.width 4
    → more ≡ min other.width 4 → mine + more ≤ 4 → segment ≡ paste b.segment mine other.segment more
    → first ≡ paste b.first mine other.first more
    → Beside b other (Ok (record { rows = b.rows; width = mine + more; segment = segment; first = first }))
unfolding flat_map
beside_is b other mine more segment first f g m o h p q =
    let e : narrow (batch_of b) (batch_of other) ≡ true =
    le-leb (length (batch_of b).cells + length (batch_of other).cells) 4 (simp (cells_count b f, cells_count other g) (omega arith)) in
    record {
      ok = sym e;
      batch = rw (
        e,
        p,
        q,
        take-paste b.segment mine other.segment more (omega arith) (omega arith),
        take-paste b.first mine other.first more (omega arith) (omega arith),
        cells_append (take mine b.segment) (take mine b.first) (take more other.segment) (take more other.first)
            (simp (length-take, f.segment, f.first)),
        take_clamped b.segment b.width mine 4 f.segment m,
        take_clamped b.first b.width mine 4 f.first m,
        take_clamped other.segment other.width more 4 g.segment o,
        take_clamped other.first other.width more 4 g.first o,
        append-nil,
      );
    }
