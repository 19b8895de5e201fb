-- Document 01, "Ports and shares", and document 02 (g): batches and queues.
use Rattle.std.specs.Prelude.{Bool, true, false, ◌||◌, List, [], ◌∷◌, ◌++◌, map, ℕ, zero, suc, ◌+◌, ◌-◌, length, eqb, leb, if◌then◌else◌}
use Rattle.rules.specs.Table.{sum_of}
use Rattle.rules.specs.Plan.{Cell, Row}

-- "rows, and for each column a segment and first row"
pub record Batch : Type 0 where
  pub rows : ℕ
  pub cells : List Cell

abbrev pub no_batch : Batch
no_batch = record { rows = 0; cells = [] }

-- the cell n rows further down
abbrev pub later : ℕ → Cell → Cell
later n c = record { segment = c.segment; row = c.row + n }

-- "An Output of n rows puts out n rows: the i-th, from 0, has for each column its segment and its first row plus i."
unfoldable pub rows_from : ℕ → ℕ → List Cell → List Row
rows_from i zero cs = []
rows_from i (suc n) cs = map (later i) cs ∷ rows_from (suc i) n cs

abbrev pub batch_rows : Batch → List Row
batch_rows b = rows_from 0 b.rows b.cells

-- the first n rows, and what is left behind them
abbrev pub front : ℕ → Batch → Batch
front n b = record { rows = n; cells = b.cells }

abbrev pub behind : ℕ → Batch → Batch
behind n b = record { rows = b.rows - n; cells = map (later n) b.cells }

-- "Capacity 0 becomes 1."
abbrev pub raised : ℕ → ℕ
raised zero = 1
raised (suc n) = suc n

-- "Joined ports and a slot's port have capacity 8"
abbrev pub capacity : ℕ
capacity = 8

-- the rows of a queue, over all its batches
abbrev pub row_sum : List Batch → ℕ
row_sum q = sum_of (λ (b : Batch). b.rows) q

-- "65,536 rows"
abbrev pub row_limit : ℕ
row_limit = 65536

-- "full at 8 batches or at 65,536 rows, so one batch may overshoot": it is asked before a batch comes, whatever rows that has
unfoldable pub is_full : ℕ → List Batch → Bool
is_full cap q = leb cap (length q) || leb row_limit (row_sum q)

-- "An empty batch is neither queued nor marked."
abbrev pub pushed : Batch → List Batch → List Batch
pushed b q = if eqb b.rows 0 then q else q ++ b ∷ []

-- the queue without the first n rows of its front batch; "`take_rows` always yields one piece here"
unfoldable pub taken : ℕ → List Batch → List Batch
taken n [] = []
taken n (b ∷ bs) = if eqb b.rows n then bs else behind n b ∷ bs

-- What a reader sees of an inlet: one that is closed and empty has ended, never one that is merely empty.
pub data Seen : Type 0 where
  waiting ready ended : Seen

unfoldable pub sees : List Batch → Bool → Seen
sees [] false = waiting
sees [] true = ended
sees (b ∷ bs) closed = ready
