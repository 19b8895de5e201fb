-- The test of a batch by its columns, and of a column by the job's nodes.
use Rattle.std.specs.Prelude.{ℕ, ◌+◌, ◌≤◌, ◌<◌, ◌≡◌, refl, Bool, true, false, ◌&&◌, List, eqb, leb, length, take, get_or}
use Rattle.std.proofs.Common.{arith, sym, ◌∙◌, lt-ltb, eq-eqb, ne_eqb, length-take-le}
use Rattle.rules.specs.Table.{any, all}
use Rattle.rules.specs.Job.{Node, Job, is_segment}
use Rattle.rules.specs.Plan.{Cell, node_of, is_leaf}
use Rattle.rules.specs.Check.{cell_ok}
use Rattle.batches.specs.Cells.{cells_of, cells_length, cells_from, cells_next, cells_none}

abbrev pub cell : ℕ → ℕ → Cell
cell g row = record { segment = g; row = row }

-- a node is a leaf of segment g with at least so many rows
abbrev pub holds_rows : ℕ → ℕ → Node → Bool
holds_rows g end x = is_segment x.kind && eqb x.segment g && leb end x.rows

-- asked of leaf l step by step
module _ (j : Job) (l g end : ℕ) (h : l < length j.nodes) where
  kind_is : (b : Bool) → is_leaf j l ≡ b → is_segment (node_of j l).kind ≡ b
  kind_is b e = rw (lt-ltb l (length j.nodes) h) at e

  pub holds_not : is_leaf j l ≡ false → false ≡ holds_rows g end (node_of j l)
  holds_not e = rw (kind_is false e)

  pub holds_other : (x : ℕ) → is_leaf j l ≡ true → x ≡ (node_of j l).segment → (x ≡ g → ⊥) → false ≡ holds_rows g end (node_of j l)
  holds_other x e q n = rw (kind_is true e, ← q, ne_eqb x g n)

  pub holds_is : (x y : ℕ) → is_leaf j l ≡ true → x ≡ (node_of j l).segment → x ≡ g → y ≡ (node_of j l).rows → leb end y ≡ holds_rows g end (node_of j l)
  holds_is x y e q n r = rw (kind_is true e, ← q, eq-eqb x g n, r)

pub cell_is : (j : Job) (g row rows : ℕ) → cell_ok j rows (cell g row) ≡ any (holds_rows g (row + rows)) j.nodes
unfolding cell_ok
cell_is j g row rows = refl

-- Columns

-- as many cells as columns
pub cells_count : (n : ℕ) (ss fs : List ℕ) → n ≤ 4 → length ss ≡ 4 → length fs ≡ 4 → length (cells_of (take n ss) (take n fs)) ≡ n
cells_count n ss fs h a b =
    cells_length (take n ss) (take n fs) (length-take-le n ss (omega arith) ∙ sym (length-take-le n fs (omega arith))) ∙ length-take-le n ss (omega arith)

module _ (f : Cell → Bool) (i n : ℕ) (ss fs : List ℕ) (a : length ss ≡ 4) (b : length fs ≡ 4) (m : n ≤ 4) where
  -- the first that is left to test, and those after it
  cells_more : i < n → all f (cells_from i n ss fs) ≡ (f (cell (get_or ss i 0) (get_or fs i 0)) && all f (cells_from (i + 1) n ss fs))
  unfolding all
  cells_more h = rw (cells_next i n ss fs h (omega arith) (omega arith))

  pub cells_pass : i < n → true ≡ f (cell (get_or ss i 0) (get_or fs i 0)) → all f (cells_from i n ss fs) ≡ all f (cells_from (i + 1) n ss fs)
  cells_pass h e = cells_more h ∙ rw (← e)

  pub cells_fail : i < n → false ≡ f (cell (get_or ss i 0) (get_or fs i 0)) → all f (cells_from i n ss fs) ≡ false
  cells_fail h e = cells_more h ∙ rw (← e)

  -- nothing is left to test
  pub cells_end : n ≤ i → all f (cells_from i n ss fs) ≡ true
  unfolding all
  cells_end h = rw (cells_none i n ss fs (omega arith))
