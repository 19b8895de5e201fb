-- Batches stay in range: what is left behind, a run of a segment, and rows side by side.
use Rattle.std.specs.Prelude.{◌≡◌, refl, ◌≢◌, ◌⊎◌, ℕ, ◌-◌, ◌<◌, ◌≤◌, length, eqb}
use Rattle.std.proofs.Common.{inl, inr}
use mathlib.Core.List.{List, [], ◌∷◌, ◌++◌, map, flat_map}
use native.Mathlib.Omega.{arith}
use Rattle.std.proofs.Math.ListN.{length-append}
use Rattle.std.proofs.lemmas.List.{length-map}
use Rattle.std.proofs.lemmas.Bool.{eqb-false}
use Rattle.rules.specs.Table.{sum_of}
use Rattle.rules.specs.Job.{Job}
use Rattle.rules.specs.Plan.{Cell, node_of}
use Rattle.rules.specs.Port.{Batch, later, behind, taken}
use Rattle.rules.specs.Operators.{least, side_by_side}
use Rattle.rules.specs.Machine.{node_at_place, slot_places}
use Rattle.laws.specs.Table.{by_bool, clash}
use Rattle.laws.specs.Rows.{All}
use Rattle.order.specs.Inv.{whole}
use Rattle.order.specs.Base.{share_above}
use Rattle.order.specs.RangeParts.{CellFits, BatchFits, QueueFits}

-- Queues

pub none_fits : (j : Job) (x : ℕ) → QueueFits j x []
none_fits j x = record { bounded = λ h. (omega arith, tt); share = λ l t h e. inl refl }

pub tail_fits : (j : Job) (x : ℕ) (b : Batch) (bs : List Batch) → QueueFits j x (b ∷ bs) → QueueFits j x bs
tail_fits j x b bs f = record {
  bounded = λ h. (omega (arith, (f.bounded h).0), (f.bounded h).1.1);
  share = λ l t h e. inl (rest l (f.share l t h e));
}
  where
    rest : (l : ℕ) → (◌≡◌ {A = List Batch} (b ∷ bs) []) ⊎ ((◌≡◌ {A = List Batch} (b ∷ bs) (whole j l ∷ [])) × (1 ≤ (node_of j l).rows)) → bs ≡ []
    rest l (inl e) = clash (cc)
    rest l (inr e) = let d = e.0 in cc

later_fits : (j : Job) (k n : ℕ) (cs : List Cell) → n ≤ k → All (CellFits j k) cs → All (CellFits j (k - n)) (map (later n) cs)
later_fits j k n [] h a = tt
later_fits j k n (c ∷ cs) h a = let f = a.0 in ((f.0, f.1, f.2, f.3, omega (arith, f.4)), later_fits j k n cs h a.1)

pub behind_fits : (j : Job) (w n : ℕ) (b : Batch) → n ≤ b.rows → b.rows ≢ n → BatchFits j w b → BatchFits j w (behind n b)
behind_fits j w n b h d f = (omega arith, omega (arith, length-map b.cells (later n), f.1), later_fits j b.rows n b.cells h f.2)

-- rows taken of a slot's port
pub taken_fits : (j : Job) (x n : ℕ) (b : Batch) (bs : List Batch) → x < slot_places → n ≤ b.rows → QueueFits j x (b ∷ bs) → QueueFits j x (taken n (b ∷ bs))
unfolding taken
taken_fits j x n b bs s h f = by_bool (eqb b.rows n)
    (λ e. rw (e, taken) (tail_fits j x b bs f))
    (λ e. rw (e, taken) (record {
      bounded = λ k. (
        (f.bounded k).0,
        (behind_fits j (node_of j (node_at_place x)).width n b h (eqb-false b.rows n e) (f.bounded k).1.0, (f.bounded k).1.1),
      );
      share = λ l t k q. absurd (omega (arith, share_above l t));
    }))

-- Side by side

module _ (n : ℕ) (j : Job) where
  cells_fit : (k : ℕ) (cs : List Cell) → n ≤ k → All (CellFits j k) cs → All (CellFits j n) cs
  cells_fit k [] h a = tt
  cells_fit k (c ∷ cs) h a = let f = a.0 in ((f.0, f.1, f.2, f.3, omega (arith, f.4)), cells_fit k cs h a.1)

  cells_both : (cs ds : List Cell) → All (CellFits j n) cs → All (CellFits j n) ds → All (CellFits j n) (cs ++ ds)
  cells_both [] ds a b = b
  cells_both (c ∷ cs) ds a b = (a.0, cells_both cs ds a.1 b)

  -- batches of n rows at least, of the nodes' widths
  pub sides_fit : (f : ℕ → Batch) (xs : List ℕ) → All (λ x. (n ≤ (f x).rows) × BatchFits j (node_of j (node_at_place x)).width (f x)) xs
      → (length (side_by_side n (map f xs)).cells ≤ sum_of (λ x. (node_of j (node_at_place x)).width) xs) × All (CellFits j n) (side_by_side n (map f xs)).cells
  unfolding flat_map sum_of
  sides_fit f [] a = (omega arith, tt)
  sides_fit f (x ∷ xs) a =
      let r = sides_fit f xs a.1 in
      let cs = (f x).cells in
      let ds = (side_by_side n (map f xs)).cells in
      (omega (arith, length-append cs ds, r.0, a.0.1.1), cells_both cs ds (cells_fit (f x).rows cs a.0.0 a.0.1.2) r.1)

-- the least of some batches
pub least_low : (f : ℕ → Batch) (x : ℕ) (xs : List ℕ) → All (λ y. 1 ≤ (f y).rows) (x ∷ xs) → 1 ≤ least (map f (x ∷ xs))
unfolding least
least_low f x [] a = a.0
least_low f x (y ∷ ys) a = let r = least_low f y ys a.1 in omega (arith, a.0, r)

pub least_most : (f : ℕ → Batch) (k : ℕ) (xs : List ℕ) → k ≤ least (map f xs) → All (λ y. k ≤ (f y).rows) xs
unfolding least
least_most f k [] h = tt
least_most f k (x ∷ []) h = (h, tt)
least_most f k (x ∷ y ∷ ys) h = (omega arith, least_most f k (y ∷ ys) (omega arith))
