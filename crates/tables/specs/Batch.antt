-- A batch and the numbers of its record.
use Rattle.std.specs.Prelude.{◌≡◌, refl, List, [], ◌∷◌, ◌++◌, ℕ, ◌≤◌, ◌<◌, length, get_or, set, take, drop}
use Rattle.std.proofs.Common.{arith, take_at, le-leb}
use Rattle.std.proofs.lemmas.Bool.{lt-leb}
use Rattle.batches.specs.declared.batch.Batch.{Batch}
use Rattle.batches.specs.Batch.{batch_of}
use Rattle.rules.specs.Port.{no_batch}
use Rattle.layout.specs.Numbers.{byte, word}
use Rattle.layout.specs.Cut.{cut, splice}
use Rattle.layout.specs.Records.{table}
use Rattle.tables.specs.Decode.{batch, columns}

-- four numbers, one by one
pub four : (l : List ℕ) → length l ≡ 4 → get_or l 0 0 ∷ get_or l 1 0 ∷ get_or l 2 0 ∷ get_or l 3 0 ∷ [] ≡ l
four [] e = absurd (omega arith)
four (a ∷ []) e = absurd (omega arith)
four (a ∷ b ∷ []) e = absurd (omega arith)
four (a ∷ b ∷ c ∷ []) e = absurd (omega arith)
four (a ∷ b ∷ c ∷ d ∷ []) e = refl
four (a ∷ b ∷ c ∷ d ∷ f ∷ l) e = absurd (omega arith)

-- the nine numbers of a batch
abbrev pub numbers : Batch → List ℕ
numbers b =
    b.rows ∷ get_or b.segment 0 0 ∷ get_or b.segment 1 0 ∷ get_or b.segment 2 0 ∷ get_or b.segment 3 0 ∷ get_or b.first 0 0 ∷ get_or b.first 1 0
    ∷ get_or b.first 2 0 ∷ get_or b.first 3 0 ∷ []

pub columns_back : (b : Batch) → length b.segment ≡ 4 → length b.first ≡ 4 → columns b.width (numbers b) ≡ batch_of b
unfolding columns
columns_back b s f = rw (four b.segment s, four b.first f) refl

-- a record with at most four columns, and one with more
pub batch_in : (r w : List ℕ) → byte r 0 ≤ 4 → w ≡ table word 4 9 (cut 1 37 r) → columns (byte r 0) w ≡ batch r
unfolding batch
batch_in r w h e = rw (le-leb (byte r 0) 4 h, e) refl

pub batch_out : (r : List ℕ) → 4 < byte r 0 → no_batch ≡ batch r
unfolding batch
batch_out r h = rw (lt-leb (byte r 0) 4 h) refl

-- the bytes of a batch, written behind the number of columns
pub batch_back : (r ys : List ℕ) (b : Batch) → length r ≡ 37 → length ys ≡ 36 → table word 4 9 ys ≡ numbers b → b.width ≤ 4 → length b.segment ≡ 4 →
    length b.first ≡ 4
    → batch (set (splice r 1 36 ys) 0 b.width) ≡ batch_of b
unfolding batch cut
batch_back [] ys b l m e h s f = absurd (omega arith)
batch_back (a ∷ rs) ys b l m e h s f =
    let front : take 36 (ys ++ drop 36 rs) ≡ ys = take_at ys (drop 36 rs) 36 m in
    rw (le-leb b.width 4 h, front, e) (columns_back b s f)
