-- The kept rows of the root and of a leaf, kept runs, and pairs.
use Rattle.std.specs.Prelude.{◌≡◌, refl, ◌≢◌, true, false, ◌&&◌, ℕ, zero, suc, ◌+◌, ◌-◌, ◌≤◌, ◌<◌, length, ltb}
use Rattle.std.proofs.Common.{sym, ap, ◌∙◌, arith, add-zero, lt-ltb}
use mathlib.Core.List.{List, [], ◌∷◌, ◌++◌, map, flat_map, map-append}
use Rattle.std.proofs.Math.Option.{none}
use Rattle.std.proofs.Math.Nat.{sub-zero}
use Rattle.rules.specs.Table.{get, up_from, is_empty}
use Rattle.rules.specs.Job.{Run, Split, Job, is_segment}
use Rattle.rules.specs.Plan.{pieces_of, kept_pieces, Row, row_of, node_of, root_of, split_of, kept, keeps, kept_rows, positions, is_leaf, overlaps, reaches, reach_start, reach_end, span_start, span_end, no_split}
use Rattle.rules.specs.Port.{rows_from}
use Rattle.laws.specs.Table.{by_list, clash, and_both}
use Rattle.laws.specs.JobOk.{JobOk}
use Rattle.laws.specs.Rows.{node_rows, run_rows, All}
use Rattle.laws.specs.KeptRuns.{cuts_sound, cuts_few, cuts_some, cut_spot, runs_within}
use Rattle.laws.specs.Spots.{numbers, spots, map_flat, cuts_spots, spots_all}
use Rattle.laws.specs.RowIn.{row_leaf, map_same}

-- a node's kept rows, taken at once
pub node_numbers : (j : Job) (n s : ℕ) → node_rows j n s ≡ map (row_of j n) (numbers (kept j n s))
unfolding node_rows numbers
node_numbers j n s = map_flat (row_of j n) (λ (r : Run). up_from r.start r.size) (kept j n s)

-- and from the root's rows
pub node_spots : (j : Job) (n s : ℕ)
    → node_rows j n s ≡ map (λ p. row_of j n (p - (node_of j n).at)) (spots (split_of j s).start (node_of j n).at ((node_of j n).at + (node_of j n).rows) (split_of j s).runs)
unfolding kept
node_spots j n s = node_numbers j n s ∙ cuts_spots (row_of j n) (split_of j s).start (node_of j n).at ((node_of j n).at + (node_of j n).rows) (split_of j s).runs

-- Leaves

abbrev leaf_row : ℕ → ℕ → Row
leaf_row g r = record { segment = g; row = r } ∷ []

leaf_run : (g x i n : ℕ) → map (leaf_row g) (up_from (x + i) n) ≡ rows_from i n (leaf_row g x)
unfolding up_from rows_from
leaf_run g x i zero = refl
leaf_run g x i (suc n) = let e : suc (x + i) ≡ x + suc i = omega arith in rw (e, leaf_run g x (suc i) n)

leaf_runs : (l g : ℕ) (rs : List Run) → map (leaf_row g) (numbers rs) ≡ run_rows (pieces_of l g rs)
unfolding numbers run_rows flat_map
leaf_runs l g [] = refl
leaf_runs l g (r ∷ rs) = rw (
  map-append (leaf_row g) (up_from r.start r.size) (numbers rs),
  leaf_runs l g rs,
  ← leaf_run g r.start 0 r.size,
  add-zero r.start,
)

pub leaf_rows : (j : Job) (n s : ℕ) → is_segment (node_of j n).kind ≡ true → node_rows j n s ≡ run_rows (kept_pieces j n s)
leaf_rows j n s e =
    node_numbers j n s
    ∙ map_same (row_of j n) (leaf_row (node_of j n).segment) (numbers (kept j n s)) (λ r. row_leaf j.nodes n r e)
    ∙ leaf_runs n (node_of j n).segment (kept j n s)

-- Runs

pub kept_sound : (j : Job) (n s : ℕ) → All (λ (r : Run). (1 ≤ r.size) × (r.start + r.size ≤ (node_of j n).rows)) (kept j n s)
unfolding kept
kept_sound j n s =
    let e : (node_of j n).at + (node_of j n).rows - (node_of j n).at ≡ (node_of j n).rows = omega arith in
    rw e at (cuts_sound (split_of j s).start (node_of j n).at ((node_of j n).at + (node_of j n).rows) (split_of j s).runs)

some_rows : (f : ℕ → Row) (x n : ℕ) (ys : List Row) → 1 ≤ n → map f (up_from x n) ++ ys ≢ []
unfolding up_from
some_rows f x zero ys h e = omega arith
some_rows f x (suc n) ys h e = clash (cc)

-- a node that keeps rows has some
pub keeps_rows : (j : Job) (n s : ℕ) → keeps j n s ≡ true → node_rows j n s ≢ []
unfolding node_rows flat_map is_empty
keeps_rows j n s k e = by_list (kept j n s) (λ t. clash (cc)) (λ r rs t.
    some_rows (row_of j n) r.start r.size (flat_map (λ (q : Run). map (row_of j n) (up_from q.start q.size)) rs) (rw t at (kept_sound j n s)).0.0 (rw t at e))

pub keeps_none : (j : Job) (n s : ℕ) → keeps j n s ≡ false → node_rows j n s ≡ []
unfolding node_rows flat_map is_empty
keeps_none j n s k = by_list (kept j n s) (λ e. rw e) (λ r rs e. clash (cc))

-- Pairs

-- a split is within the span of the splits
span_start_lem : (ss : List Split) (s : ℕ) → s < length ss → span_start ss ≤ (get no_split ss s).start
unfolding span_start
span_start_lem [] s h = absurd (omega arith)
span_start_lem (x ∷ []) zero h = omega arith
span_start_lem (x ∷ []) (suc s) h = absurd (omega arith)
span_start_lem (x ∷ y ∷ ys) zero h = omega arith
span_start_lem (x ∷ y ∷ ys) (suc s) h = let i = span_start_lem (y ∷ ys) s (omega arith) in omega (arith, i)

span_end_lem : (ss : List Split) (s : ℕ) → s < length ss → (get no_split ss s).end ≤ span_end ss
unfolding span_end
span_end_lem [] s h = absurd (omega arith)
span_end_lem (x ∷ xs) zero h = omega arith
span_end_lem (x ∷ xs) (suc s) h = let i = span_end_lem xs s (omega arith) in omega (arith, i)

module _ (j : Job) (ok : JobOk j) (n s : ℕ) (is : s < length j.splits) where
  pub kept_few : length (kept j n s) ≤ 16
  unfolding kept
  kept_few = omega (arith, cuts_few (split_of j s).start (node_of j n).at ((node_of j n).at + (node_of j n).rows) (split_of j s).runs, (ok.splits s is).few)

  -- a row that a node keeps is in its range and in the split
  pub keeps_spot : keeps j n s ≡ true
      → (x : ℕ) × ((node_of j n).at ≤ x) × (x < (node_of j n).at + (node_of j n).rows) × ((split_of j s).start ≤ x) × (x < (split_of j s).end)
  unfolding kept
  keeps_spot k =
      let b = (split_of j s).start in
      let size = (split_of j s).end - b in
      let lo = (node_of j n).at in
      let hi = (node_of j n).at + (node_of j n).rows in
      let rs = (split_of j s).runs in
      let w = cuts_some (λ (r : Run). (1 ≤ r.size) × (r.start + r.size ≤ size)) b lo hi rs (runs_within size none rs (ok.splits s is).runs) k in
      cut_spot b (split_of j s).end lo hi w.0 (ok.splits s is).order w.1.1 w.2

  -- a leaf that keeps rows in a split overlaps it
  pub keeps_pair : is_leaf j n ≡ true → keeps j n s ≡ true → overlaps j n s ≡ true
  keeps_pair _ k =
      let w = keeps_spot k in
      let a = span_start_lem j.splits s is in
      let b = span_end_lem j.splits s is in
      and_both (reaches j n && ltb (split_of j s).start (reach_end j n)) (ltb (reach_start j n) (split_of j s).end)
      (and_both (reaches j n) (ltb (split_of j s).start (reach_end j n))
      (lt-ltb (reach_start j n) (reach_end j n) (omega (arith, w.1, w.2, w.3, w.4, a, b)))
      (lt-ltb (split_of j s).start (reach_end j n) (omega (arith, w.1, w.2, w.3, w.4, a, b))))
      (lt-ltb (reach_start j n) (split_of j s).end (omega (arith, w.1, w.2, w.3, w.4, a, b)))

-- Root

-- the root's kept rows are the split's
pub root_rows : (j : Job) (ok : JobOk j) (s : ℕ) → s < length j.splits → node_rows j (root_of j) s ≡ kept_rows j s
unfolding kept_rows
root_rows j ok s is =
    let b = (split_of j s).start in
    let hi = (node_of j (root_of j)).rows in
    let size = (split_of j s).end - b in
    let rs = (split_of j s).runs in
    let e : 0 + hi ≡ hi = omega arith in
    (rw (ok.at_root, e) at (node_spots j (root_of j) s))
    ∙ map_same (λ p. row_of j (root_of j) (p - 0)) (row_of j (root_of j)) (spots b 0 hi rs) (λ p. ap (row_of j (root_of j)) (sub-zero p))
    ∙ ap (map (row_of j (root_of j)))
    (spots_all b hi size rs (runs_within size none rs (ok.splits s is).runs) (omega (arith, (ok.splits s is).order, (ok.splits s is).within)))
    ∙ sym (map_flat (row_of j (root_of j)) (positions (split_of j s)) rs)
