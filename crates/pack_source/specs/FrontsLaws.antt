-- Why the answers on front batches are right.
use Rattle.std.specs.Prelude.{◌≡◌, refl, true, false, length, get_or, take, drop, None, Result, Ok, Err}
use Rattle.std.specs.Result.{is_ok}
use Rattle.std.proofs.Common.{sym, ◌∙◌, not-suc-le-zero, suc-ne-zero, add-one, leb-false, length-append, take-suc}
use Rattle.std.proofs.Math.Path.{ap}
use mathlib.Core.List.{List, [], ◌∷◌, ◌++◌, map, map-append, flat_map, append-nil, append_assoc}
use Prim.Native.Nat.{ℕ, zero, suc, ◌+◌, ◌-◌, ◌≤◌, ◌<◌, min}
use native.Mathlib.Omega.{arith}
use Rattle.std.proofs.lemmas.Bool.{lt-leb}
use Rattle.rules.specs.Plan.{Cell}
use Rattle.rules.specs.Port as rules
use Rattle.rules.specs.Operators.{least, side_by_side}
use Rattle.batches.specs.declared.batch.Batch.{Batch}
use Rattle.batches.specs.Batch.{batch_of, blank}
use Rattle.batches.specs.Beside.{Beside}
use Rattle.numbers.specs.Arrays.{count_is}
use Rattle.numbers.specs.Arrays.{in_use}
use Rattle.pack_source.specs.declared.fronts.Fronts.{Fronts}
use Rattle.pack_source.specs.Fronts.{fronts_of, narrow, Joins}

-- the least of one, and of one more
pub least_last : (bs : List rules.Batch) (k : ℕ) (d : rules.Batch) → k + 1 ≡ length bs → (get_or bs k d).rows ≡ least (drop k bs)
unfolding least
least_last [] k d h = absurd (omega arith)
least_last (b ∷ []) zero d h = refl
least_last (b ∷ c ∷ bs) zero d h = absurd (omega arith)
least_last (b ∷ bs) (suc k) d h = least_last bs k d (omega arith)

pub least_more : (bs : List rules.Batch) (k : ℕ) (d : rules.Batch) → suc k < length bs
    → min (get_or bs k d).rows (least (drop (suc k) bs)) ≡ least (drop k bs)
unfolding least
least_more [] k d h = absurd (not-suc-le-zero h)
least_more (b ∷ []) zero d h = absurd (omega arith)
least_more (b ∷ c ∷ bs) zero d h = refl
least_more (b ∷ bs) (suc k) d h = least_more bs k d (omega arith)

-- the first n batches of a table
module _ (n : ℕ) (l : List Batch) (long : length l ≡ 4) (few : n ≤ 4) where
  bs : List rules.Batch
  bs = map batch_of (take n l)

  count : length bs ≡ n
  unfolding bs
  count = let e = count_is batch_of n l 4 long in omega (arith, e)

  -- a loop from the last to the first
  pub rows_last : 0 < n → (get_or l (n - 1) blank).rows ≡ least (drop (n - 1) (map batch_of (take n l)))
  unfolding bs
  rows_last h = ap (λ (b : rules.Batch). b.rows) (sym (in_use batch_of n l blank (n - 1) (omega arith)))
      ∙ least_last bs (n - 1) (batch_of blank) (omega (arith, count))

  pub rows_more : (k rows r : ℕ) → 0 < k → k < n → rows ≡ least (drop k (map batch_of (take n l)))
      → r ≡ min (get_or l (k - 1) blank).rows rows → r ≡ least (drop (k - 1) (map batch_of (take n l)))
  unfolding bs
  rows_more zero rows r z h e m = absurd (not-suc-le-zero z)
  rows_more (suc k) rows r z h e m =
      let p : suc k - 1 ≡ k = omega arith in
      let q = ap (λ (b : rules.Batch). b.rows) (in_use batch_of n l blank k (omega arith)) in
      rw (p, m, p, e, ← q) (least_more bs k (batch_of blank) (omega (arith, count)))

-- the cells of batches side by side
abbrev cells_in : List rules.Batch → List Cell
cells_in bs = flat_map (λ (b : rules.Batch). b.cells) bs

cells_last : (bs : List rules.Batch) (b : rules.Batch) → cells_in (bs ++ b ∷ []) ≡ cells_in bs ++ b.cells
unfolding flat_map
cells_last [] b = append-nil b.cells
cells_last (a ∷ bs) b = rw (cells_last bs b) (sym (append_assoc a.cells (cells_in bs) b.cells))

-- a front part has no more
cells_most : (l : List Batch) (i j : ℕ) → i ≤ j → length (cells_in (map batch_of (take i l))) ≤ length (cells_in (map batch_of (take j l)))
unfolding flat_map
cells_most l zero j h = omega arith
cells_most l (suc i) zero h = absurd (not-suc-le-zero h)
cells_most [] (suc i) (suc j) h = omega arith
cells_most (b ∷ l) (suc i) (suc j) h = simp length-append (omega (arith, cells_most l i j (omega arith)))

take_next : (l : List Batch) (i : ℕ) → i < length l → map batch_of (take (i + 1) l) ≡ map batch_of (take i l) ++ batch_of (get_or l i blank) ∷ []
take_next l i h = rw (add-one i, take-suc l i blank h) (map-append batch_of (take i l) (get_or l i blank ∷ []))

-- after i batches
pub record Going (n : ℕ) (l : List Batch) (i : ℕ) (all : Batch) : Type 0 where
  pub batch : batch_of all ≡ side_by_side n (map batch_of (take i l))
  pub fits : narrow (map batch_of (take i l)) ≡ true

pub going_start : (n : ℕ) (l : List Batch) (none all : Batch) → batch_of none ≡ rules.no_batch → batch_of all ≡ rules.front n (batch_of none)
    → Going n l 0 all
unfolding flat_map
going_start n l none all e f = record { batch = f ∙ ap (rules.front n) e; fits = refl }

-- a batch that is all of `xs` side by side, and one more beside it
module _ (n : ℕ) (xs : List rules.Batch) (a y : rules.Batch) (e : a ≡ side_by_side n xs) where
  cells_is : a.cells ≡ cells_in xs
  cells_is = ap (λ (z : rules.Batch). z.cells) e

  rows_is : a.rows ≡ n
  rows_is = ap (λ (z : rules.Batch). z.rows) e

  width_is : length (cells_in (xs ++ y ∷ [])) ≡ length a.cells + length y.cells
  width_is = rw (cells_last xs y, cells_is) (length-append (cells_in xs) y.cells)

  joined_is : side_by_side a.rows (a ∷ y ∷ []) ≡ side_by_side n (xs ++ y ∷ [])
  unfolding flat_map
  joined_is = rw (cells_last xs y, cells_is, rows_is, append-nil)

module _ (n : ℕ) (l : List Batch) (i : ℕ) (all : Batch) (g : Going n l i all) (h : i < length l) where
  narrow_is : (r : Result Batch Batch) → Beside all (get_or l i blank) r → narrow (map batch_of (take (i + 1) l)) ≡ is_ok r
  narrow_is r b = rw (take_next l i h, width_is n (map batch_of (take i l)) (batch_of all) (batch_of (get_or l i blank)) g.batch) (sym b.ok)

  pub going_next : (wider : Batch) → Beside all (get_or l i blank) (Ok wider) → Going n l (i + 1) wider
  going_next wider b = record {
    batch = rw (take_next l i h)
        (rw (sym b.ok) at b.batch ∙ joined_is n (map batch_of (take i l)) (batch_of all) (batch_of (get_or l i blank)) g.batch);
    fits = narrow_is (Ok wider) b;
  }

  pub going_not : (kept : Batch) (count : ℕ) → Beside all (get_or l i blank) (Err kept) → i < count
      → Joins n (map batch_of (take count l)) None
  going_not kept count b k =
      let m = leb-false (length (cells_in (map batch_of (take (i + 1) l)))) 4 (narrow_is (Err kept) b) in
      let f : narrow (map batch_of (take count l)) ≡ false =
      lt-leb (length (cells_in (map batch_of (take count l)))) 4 (omega (arith, cells_most l (i + 1) count (omega arith))) in
      rw f

-- Answers, where n is how many there are.

least_none : (bs : List rules.Batch) → length bs ≡ 0 → 0 ≡ least bs
unfolding least
least_none [] e = refl
least_none (b ∷ bs) e = absurd (suc-ne-zero (length bs) e)

module _ (f : Fronts) (n : ℕ) (c : n ≡ length (fronts_of f)) where
  pub no_rows : n ≡ 0 → 0 ≡ least (fronts_of f)
  no_rows e = least_none (fronts_of f) (sym c ∙ e)
