-- The runs of a split that have rows of a node, one run after another.
use Rattle.std.specs.Prelude.{ℕ, suc, ◌+◌, ◌≤◌, ◌<◌, min, max, ◌≡◌, Bool, false, not, ltb, drop}
use Rattle.std.proofs.Common.{arith, add-one, ap, ◌∙◌, drop_of_length-le, length-append}
use Rattle.std.proofs.Math.Path.{sym}
use Rattle.std.proofs.Math.Bool.{true}
use mathlib.Core.List.{List, ◌++◌, flat_map}
use Rattle.std.proofs.Math.ListN.{length}
use Rattle.std.proofs.Math.Seq.{drop-cons}
use Rattle.rules.specs.Table.{get, is_empty}
use Rattle.rules.specs.Job.{Run, Job}
use Rattle.rules.specs.Plan.{cut, kept, keeps, node_of, split_of}
use Rattle.laws.specs.Table.{by_bool, get_get_or}
use Rattle.numbers.specs.Bit.{bit}
use Rattle.table_job.specs.SplitFields.{no_run}

-- a run of the root's rows from `base` has some of those from lo to hi
abbrev pub meets : ℕ → ℕ → ℕ → Run → Bool
meets base lo hi r = ltb (max (base + r.start) lo) (min (base + r.start + r.size) hi)

-- what is left of it
cut_length : (base lo hi : ℕ) (r : Run) → length (cut base lo hi r) ≡ bit (meets base lo hi r)
cut_length base lo hi r = by_bool (meets base lo hi r) (λ e. rw e) (λ e. rw e)

-- Loops over runs

module _ (base lo hi : ℕ) (xs : List Run) where
  -- the parts of the runs from i on
  abbrev pub parts_from : ℕ → List Run
  parts_from i = flat_map (cut base lo hi) (drop i xs)

  next : (i : ℕ) → i < length xs → parts_from i ≡ cut base lo hi (get no_run xs i) ++ parts_from (suc i)
  unfolding flat_map
  next i h = rw (get_get_or no_run xs i, drop-cons xs i no_run h)

  pub count_next : (i c r total : ℕ) (b : Bool) (x : Run) → i < length xs → total ≡ c + length (parts_from i) → x ≡ get no_run xs i → b ≡ meets base lo hi x →
      r ≡ bit b
      → total ≡ c + r + length (parts_from (i + 1))
  count_next i c r total b x h e f p q =
      let n : length (parts_from i) ≡ r + length (parts_from (suc i))
      = ap length (next i h) ∙ length-append (cut base lo hi (get no_run xs i)) (parts_from (suc i)) ∙ rw (cut_length base lo hi (get no_run xs i), q, p, f) in
      rw (add-one i) (omega (arith, n, e))

  pub count_end : (i c total : ℕ) → length xs ≤ i → total ≡ c + length (parts_from i) → c ≡ total
  unfolding flat_map
  count_end i c total h e =
      let n : length (parts_from i) ≡ 0 = rw (drop_of_length-le xs {i = i} h) in
      omega (arith, n, e)

  -- whether there are any
  pub some_here : (i : ℕ) (b y : Bool) (x : Run) → i < length xs → y ≡ not (is_empty (parts_from i)) → x ≡ get no_run xs i → b ≡ meets base lo hi x →
      b ≡ true → true ≡ y
  unfolding is_empty
  some_here i b y x h e f p q =
      let m : meets base lo hi (get no_run xs i) ≡ true = rw (← f) (sym p ∙ q) in
      sym (e ∙ rw (next i h, m))

  pub some_next : (i : ℕ) (b y : Bool) (x : Run) → i < length xs → y ≡ not (is_empty (parts_from i)) → x ≡ get no_run xs i → b ≡ meets base lo hi x →
      b ≡ false → y ≡ not (is_empty (parts_from (i + 1)))
  some_next i b y x h e f p q =
      let m : meets base lo hi (get no_run xs i) ≡ false = rw (← f) (sym p ∙ q) in
      rw (add-one i) (e ∙ rw (next i h, m))

  pub some_end : (i : ℕ) (y : Bool) → length xs ≤ i → y ≡ not (is_empty (parts_from i)) → false ≡ y
  unfolding flat_map is_empty
  some_end i y h e = sym (e ∙ rw (drop_of_length-le xs {i = i} h))

-- all runs of a split
module _ (j : Job) (n t base at rows : ℕ) (e : base ≡ (split_of j t).start) (f : at ≡ (node_of j n).at) (g : rows ≡ (node_of j n).rows) where
  kept_parts : kept j n t ≡ parts_from base at (at + rows) (split_of j t).runs 0
  unfolding kept
  kept_parts = rw (e, f, g)

  pub count_start : length (kept j n t) ≡ 0 + length (parts_from base at (at + rows) (split_of j t).runs 0)
  count_start = rw kept_parts (omega arith)

  pub some_start : keeps j n t ≡ not (is_empty (parts_from base at (at + rows) (split_of j t).runs 0))
  some_start = ap (λ (l : List Run). not (is_empty l)) kept_parts
