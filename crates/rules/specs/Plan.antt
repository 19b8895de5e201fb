-- Document 01, "Job bytes": rows, widths and kept rows of a node; "Ports and shares": reaches, and what is shared.
use Rattle.std.specs.Prelude.{Bool, true, false, ◌||◌, ◌&&◌, not, ℕ, zero, suc, ◌+◌, ◌-◌, min, max, length, eqb, ltb, if◌then◌else◌}
use mathlib.Core.List.{List, [], ◌∷◌, ◌++◌, map, flat_map}
use Rattle.rules.specs.Table.{get, filter, sum_of, is_empty, up_from}
use Rattle.rules.specs.Job.{segment, concat, pack, Node, Run, Split, Job, node_at, is_segment, kids}

-- "a segment and a row of it"
pub record Cell : Type 0 where
  pub segment : ℕ
  pub row : ℕ

-- "each again with a segment and a row of it for each column"
abbrev pub Row : Type 0
Row = List Cell

abbrev pub node_of : Job → ℕ → Node
node_of j n = node_at j.nodes n

abbrev pub root_of : Job → ℕ
root_of j = length j.nodes - 1

abbrev pub no_split : Split
no_split = record { start = 0; end = 0; runs = [] }

abbrev pub split_of : Job → ℕ → Split
split_of j s = get no_split j.splits s

-- Rows

-- the row of the child that holds row r, of children one after another; `row` gives a child's row
unfoldable pub one_of : (ℕ → ℕ → Row) → List Node → List ℕ → ℕ → Row
one_of row ns [] r = []
one_of row ns (c ∷ cs) r = elim (ltb r (node_at ns c).rows) [ true ↦ row c r | false ↦ one_of row ns cs (r - (node_at ns c).rows) ]

-- row r of every child, side by side
unfoldable pub all_of : (ℕ → ℕ → Row) → List ℕ → ℕ → Row
all_of row [] r = []
all_of row (c ∷ cs) r = row c r ++ all_of row cs r

-- "Rows of a node: a segment's 0 upward; a concat's children one after another; a pack's row joins the fields' rows."
-- The first number bounds the depth: children stand before their parent.
unfoldable pub row_in : ℕ → List Node → ℕ → ℕ → Row
row_in zero ns n r = []
row_in (suc f) ns n r =
    elim (node_at ns n).kind [
      | segment ↦ record { segment = (node_at ns n).segment; row = r } ∷ []
      | concat ↦ one_of (row_in f ns) ns (kids ns n) r
      | pack ↦ all_of (row_in f ns) (kids ns n) r
    ]

abbrev pub row_of : Job → ℕ → ℕ → Row
row_of j n r = row_in (suc n) j.nodes n r

-- the root's rows that a run keeps
abbrev pub positions : Split → Run → List ℕ
positions s r = up_from (s.start + r.start) r.size

-- "Its kept rows are the root's rows at the split's start plus each position in its runs, rising"; 02 (a): "The kept rows of a split are
-- those of the joined runs", and those are what a job holds
unfoldable pub kept_rows : Job → ℕ → List Row
kept_rows j s = flat_map (λ r. map (row_of j (root_of j)) (positions (split_of j s) r)) (split_of j s).runs

-- Kept runs

-- a run of the root's rows from `base`, cut to those from lo to hi and counted from lo
abbrev pub cut : ℕ → ℕ → ℕ → Run → List Run
cut base lo hi r =
    let x = max (base + r.start) lo in
    let y = min (base + r.start + r.size) hi in
    if ltb x y then record { start = x - lo; size = y - x } ∷ [] else []

-- the split's runs within a node, in the node's rows
unfoldable pub kept : Job → ℕ → ℕ → List Run
kept j n s = flat_map (cut (split_of j s).start (node_of j n).at ((node_of j n).at + (node_of j n).rows)) (split_of j s).runs

abbrev pub keeps : Job → ℕ → ℕ → Bool
keeps j n s = not (is_empty (kept j n s))

-- a run of a leaf, with the leaf's segment
pub record Piece : Type 0 where
  pub leaf : ℕ
  pub segment : ℕ
  pub run : Run

abbrev pub pieces_of : ℕ → ℕ → List Run → List Piece
pieces_of l g rs = map (λ (r : Run). record { leaf = l; segment = g; run = r }) rs

-- the runs of a leaf that a split keeps
abbrev pub kept_pieces : Job → ℕ → ℕ → List Piece
kept_pieces j l s = pieces_of l (node_of j l).segment (kept j l s)

-- "the whole segment is kept"
abbrev pub is_whole : ℕ → List Run → Bool
is_whole rows [] = false
is_whole rows (r ∷ []) = eqb r.start 0 && eqb r.size rows
is_whole rows (r ∷ q ∷ rs) = false

-- "A concat lowers the children that `overlapping` names, drops those that became nothing": the children that keep rows
abbrev pub kept_kids : Job → ℕ → ℕ → List ℕ
kept_kids j n s = filter (λ c. keeps j c s) (kids j.nodes n)

-- Sharing

abbrev pub is_leaf : Job → ℕ → Bool
is_leaf j n = ltb n (length j.nodes) && is_segment (node_of j n).kind

abbrev pub leaves : Job → List ℕ
leaves j = filter (is_leaf j) (up_from 0 (length j.nodes))

-- "Leaves of one segment are taken in tree order": the leaves that name the segment of leaf g
abbrev pub leaves_of : Job → ℕ → List ℕ
leaves_of j g = filter (λ l. eqb (node_of j l).segment (node_of j g).segment) (leaves j)

-- l is a leaf of the segment of leaf g
abbrev pub names : Job → ℕ → ℕ → Bool
names j g l = is_leaf j l && eqb (node_of j l).segment (node_of j g).segment

-- a segment's place in the tables: the first leaf that names it
abbrev pub first_leaf : Job → ℕ → ℕ
first_leaf j l = get l (leaves_of j l) 0

-- "the span of the splits": from the smallest start to the largest end
unfoldable pub span_start : List Split → ℕ
span_start [] = 0
span_start (s ∷ []) = s.start
span_start (s ∷ t ∷ ts) = min s.start (span_start (t ∷ ts))

unfoldable pub span_end : List Split → ℕ
span_end [] = 0
span_end (s ∷ ss) = max s.end (span_end ss)

-- "Reach: each leaf's root rows, cut to the span of the splits."
abbrev pub reach_start : Job → ℕ → ℕ
reach_start j l = max (node_of j l).at (span_start j.splits)

abbrev pub reach_end : Job → ℕ → ℕ
reach_end j l = min ((node_of j l).at + (node_of j l).rows) (span_end j.splits)

-- "A leaf without rows in the span has no reach."
abbrev pub reaches : Job → ℕ → Bool
reaches j l = ltb (reach_start j l) (reach_end j l)

-- "split's start before the reach's end, reach's start before the split's end"
abbrev pub overlaps : Job → ℕ → ℕ → Bool
overlaps j l s = reaches j l && ltb (split_of j s).start (reach_end j l) && ltb (reach_start j l) (split_of j s).end

-- "a pair of a reach and [a] split that overlaps it", as a leaf and a split; those of the segment of leaf g by leaf, then split
abbrev pub pairs : Job → ℕ → List (ℕ × ℕ)
pairs j g = flat_map (λ l. map (λ s. (l, s)) (filter (overlaps j l) (up_from 0 (length j.splits)))) (leaves_of j g)

-- "A segment is shared if two leaves with a reach name it or two splits overlap its reach"
abbrev pub is_shared : Job → ℕ → Bool
is_shared j g = ltb 1 (length (filter (reaches j) (leaves_of j g))) || ltb 1 (length (pairs j g))

-- Demand 3's numbers

-- "D counts the different segment numbers in the job's `SG` records"
abbrev pub segment_count : Job → ℕ
segment_count j = length (filter (λ l. eqb (first_leaf j l) l) (leaves j))

-- "K adds up the lengths of all runs"
abbrev pub row_count : Job → ℕ
row_count j = sum_of (λ (s : Split). sum_of (λ (r : Run). r.size) s.runs) j.splits
