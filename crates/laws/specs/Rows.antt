-- The kept rows of a node, rows side by side, and what the rows of a batch are.
use Rattle.std.specs.Prelude.{◌≡◌, ◌≢◌, ◌↔◌, ℕ, zero, suc, ◌+◌, ◌-◌, ◌≤◌, ◌<◌, length}
use Rattle.std.proofs.Math.Path.{refl, sym}
use Rattle.std.proofs.Common.{ap, ◌∙◌, arith}
use mathlib.Core.List.{List, [], ◌∷◌, ◌++◌, map, flat_map, append-nil, map-append}
use Rattle.rules.specs.Table.{get, up_from}
use Rattle.rules.specs.Job.{Run, Job}
use Rattle.rules.specs.Plan.{Cell, Row, Piece, row_of, kept}
use Rattle.rules.specs.Port.{Batch, later, rows_from, batch_rows, front, behind}
use Rattle.rules.specs.Operators.{piece_batch, side_by_side}
use Rattle.laws.specs.Table.{clash}

-- the kept rows of a node in a split
unfoldable pub node_rows : Job → ℕ → ℕ → List Row
node_rows j n s = flat_map (λ (r : Run). map (row_of j n) (up_from r.start r.size)) (kept j n s)

-- the rows of runs of segments
unfoldable pub run_rows : List Piece → List Row
run_rows ps = flat_map (λ (a : Piece). batch_rows (piece_batch a)) ps

-- lists of rows side by side, as long as the shorter
unfoldable pub beside : List Row → List Row → List Row
beside [] ys = []
beside (x ∷ xs) [] = []
beside (x ∷ xs) (y ∷ ys) = (x ++ y) ∷ beside xs ys

unfoldable pub sides : List (List Row) → List Row
sides [] = []
sides (x ∷ []) = x
sides (x ∷ y ∷ zs) = beside x (sides (y ∷ zs))

-- every entry of a list
abbrev pub All {ℓ} : {A : Type 0} → (A → Type ℓ) → List A → Type ℓ
All P [] = Unit
All P (x ∷ xs) = P x × All P xs

-- the entry at a number
pub All-get {ℓ} : {A : Type 0} (P : A → Type ℓ) (d : A) (xs : List A) (i : ℕ) → All P xs → i < length xs → P (get d xs i)
All-get P d [] i h k = absurd (omega arith)
All-get P d (x ∷ xs) zero h k = h.0
All-get P d (x ∷ xs) (suc i) h k = All-get P d xs i h.1 (omega arith)

-- Side by side

-- lists of equal lengths, each followed by another
pub beside_append : (a b c d : List Row) → length a ≡ length b → beside (a ++ c) (b ++ d) ≡ beside a b ++ beside c d
unfolding beside
beside_append [] [] c d e = refl
beside_append [] (y ∷ b) c d e = absurd (omega arith)
beside_append (x ∷ a) [] c d e = absurd (omega arith)
beside_append (x ∷ a) (y ∷ b) c d e = rw (beside_append a b c d (omega arith))

pub beside_length : (a b : List Row) → length a ≡ length b → length (beside a b) ≡ length a
unfolding beside
beside_length [] b e = refl
beside_length (x ∷ a) [] e = absurd (omega arith)
beside_length (x ∷ a) (y ∷ b) e = ap suc (beside_length a b (omega arith))

module _ {A : Type 0} (f : A → List Row) (n : ℕ) where
  pub sides_length : (x : A) (xs : List A) → All (λ y. length (f y) ≡ n) (x ∷ xs) → length (sides (map f (x ∷ xs))) ≡ n
  unfolding sides
  sides_length x [] h = h.0
  sides_length x (y ∷ ys) h = beside_length (f x) (sides (map f (y ∷ ys))) (h.0 ∙ sym (sides_length y ys h.1)) ∙ h.0

  pub sides_append : (g : A → List Row) (xs : List A) → All (λ y. length (f y) ≡ n) xs
      → sides (map (λ y. f y ++ g y) xs) ≡ sides (map f xs) ++ sides (map g xs)
  unfolding sides
  sides_append g [] h = refl
  sides_append g (x ∷ []) h = refl
  sides_append g (x ∷ y ∷ ys) h =
      rw (sides_append g (y ∷ ys) h.1) (beside_append (f x) (sides (map f (y ∷ ys))) (g x) (sides (map g (y ∷ ys))) (h.0 ∙ sym (sides_length y ys h.1)))

-- the same over a list of pairs
pub sides_pairs : (n : ℕ) (ps : List (List Row × List Row)) → All (λ p. length p.0 ≡ n) ps
    → sides (map (λ p. p.0 ++ p.1) ps) ≡ sides (map (λ p. p.0) ps) ++ sides (map (λ p. p.1) ps)
sides_pairs n ps h = sides_append (λ p. p.0) n (λ p. p.1) ps h

-- Batches

later_later : (i n : ℕ) (cs : List Cell) → map (later i) (map (later n) cs) ≡ map (later (n + i)) cs
later_later i n [] = refl
later_later i n (c ∷ cs) = let e : c.row + n + i ≡ c.row + (n + i) = omega arith in rw (later_later i n cs, e)

rows_later : (i k n : ℕ) (cs : List Cell) → rows_from i k (map (later n) cs) ≡ rows_from (n + i) k cs
unfolding rows_from
rows_later i zero n cs = refl
rows_later i (suc k) n cs = let e : n + suc i ≡ suc (n + i) = omega arith in rw (later_later i n cs, rows_later (suc i) k n cs, e)

rows_append : (i m k : ℕ) (cs : List Cell) → rows_from i m cs ++ rows_from (i + m) k cs ≡ rows_from i (m + k) cs
unfolding rows_from
rows_append i zero k cs = let e : i + 0 ≡ i = omega arith in let d : 0 + k ≡ k = omega arith in rw (e, d)
rows_append i (suc m) k cs =
    let e : i + suc m ≡ suc i + m = omega arith in
    let d : suc m + k ≡ suc (m + k) = omega arith in
    rw (e, d, rows_append (suc i) m k cs)

rows_length : (i n : ℕ) (cs : List Cell) → length (rows_from i n cs) ≡ n
unfolding rows_from
rows_length i zero cs = refl
rows_length i (suc n) cs = ap suc (rows_length (suc i) n cs)

rows_beside : (i n : ℕ) (cs ds : List Cell) → rows_from i n (cs ++ ds) ≡ beside (rows_from i n cs) (rows_from i n ds)
unfolding rows_from beside
rows_beside i zero cs ds = refl
rows_beside i (suc n) cs ds = rw (rows_beside (suc i) n cs ds, map-append (later i) cs ds)

-- the first n rows, then those behind them
pub front_behind : (n : ℕ) (b : Batch) → n ≤ b.rows → batch_rows (front n b) ++ batch_rows (behind n b) ≡ batch_rows b
front_behind n b h =
    let e : n + 0 ≡ 0 + n = omega arith in
    let d : n + (b.rows - n) ≡ b.rows = omega arith in
    rw (rows_later 0 (b.rows - n) n b.cells, e, rows_append 0 n (b.rows - n) b.cells, d)

pub batch_length : (b : Batch) → length (batch_rows b) ≡ b.rows
batch_length b = rows_length 0 b.rows b.cells

pub batch_empty : (b : Batch) → (batch_rows b ≡ []) ↔ (b.rows ≡ 0)
unfolding rows_from
batch_empty b = (λ e. sym (batch_length b) ∙ ap length e, λ e. rw e)

-- a pack's batch
pub side_by_side_lem : (n : ℕ) (bs : List Batch) → bs ≢ [] → batch_rows (side_by_side n bs) ≡ sides (map (λ b. batch_rows (front n b)) bs)
unfolding sides flat_map
side_by_side_lem n [] h = absurd (h refl)
side_by_side_lem n (b ∷ []) h = rw (append-nil b.cells)
side_by_side_lem n (b ∷ c ∷ cs) h =
    rows_beside 0 n b.cells (flat_map (λ d. d.cells) (c ∷ cs)) ∙ ap (beside (rows_from 0 n b.cells)) (side_by_side_lem n (c ∷ cs) (λ e. clash (cc)))
