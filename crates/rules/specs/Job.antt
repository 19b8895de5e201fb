-- Document 01, "Job bytes" and the table's refusals 2 to 8, and document 02 (a), (h) and (k): runs that meet, 17 to 19, and joins of one child.
use Rattle.std.specs.Prelude.{Bool, true, false, ◌||◌, ◌&&◌, not, List, [], ◌∷◌, ◌++◌, map, reverse, ℕ, zero, suc, ◌+◌, ◌*◌, ◌-◌, ◌<◌, length, take, drop, get_or, eqb, leb, ltb, if◌then◌else◌}
use Rattle.std.proofs.Math.Option.{Option, none, some}
use Rattle.rules.specs.Table.{get, put, filter, any, sum_of, is_empty, is_some}

pub data Kind : Type 0 where
  segment concat pack : Kind

-- "nodes, children before parents": a node is named by its place in the job. `at` is the root's row that its row 0 is in.
pub record Node : Type 0 where
  pub kind : Kind
  pub segment : ℕ
  pub rows : ℕ
  pub width : ℕ
  pub parent : Option ℕ
  pub at : ℕ

-- "each run as start (counted from the split's start) and length"
pub record Run : Type 0 where
  pub start : ℕ
  pub size : ℕ

pub record Split : Type 0 where
  pub start : ℕ
  pub end : ℕ
  pub runs : List Run

pub record Job : Type 0 where
  pub slots : ℕ
  pub nodes : List Node
  pub splits : List Split

-- A refusal: the number of the table's row, and 02 (h): "with the run's index, counted from 0, beside the number"
pub record Refusal : Type 0 where
  pub number : ℕ
  pub index : Option ℕ

-- An answer to what may be refused: a refusal, or a value.
pub data Outcome (A : Type 0) : Type 0 where
  refused_by : Refusal → Outcome A
  accepted : A → Outcome A

-- refused by a number alone
abbrev pub refused : {A : Type 0} → ℕ → Outcome A
refused n = refused_by (record { number = n; index = none })

-- Reading

-- "A two-byte ASCII mark stands before each record"
pub data Record : Type 0 where
  slots : ℕ → Record
  leaf : ℕ → ℕ → Record
  join : Kind → ℕ → Record
  split : ℕ → ℕ → List Run → Record

-- what a caller hands over are bytes
abbrev pub Bytes : List ℕ → Type 0
Bytes bytes = (i : ℕ) → get_or bytes i 0 < 256

-- A parser takes bytes from the front and says what is left, or none where they are cut short.
abbrev pub Parser : Type 0 → Type 0
Parser A = List ℕ → Option (A × List ℕ)

module _ {A B : Type 0} where
  abbrev pub ◌>>=◌ : Parser A → (A → Parser B) → Parser B
  ◌>>=◌ r f bytes = elim (r bytes) [ none ↦ none | some x ↦ f x.0 x.1 ]

abbrev pub give : {A : Type 0} → A → Parser A
give x bytes = some (x, bytes)

-- "fields are 32-bit unsigned, low byte first"
unfoldable pub word : Parser ℕ
word [] = none
word (a ∷ []) = none
word (a ∷ b ∷ []) = none
word (a ∷ b ∷ c ∷ []) = none
word (a ∷ b ∷ c ∷ d ∷ rest) = some (a + 256 * (b + 256 * (c + 256 * d)), rest)

unfoldable pub runs : ℕ → Parser (List Run)
runs zero = give []
runs (suc n) = do
  s ← word
  l ← word
  rs ← runs n
  give (record { start = s; size = l } ∷ rs)

-- two bytes are a mark
abbrev pub is_mark : ℕ → ℕ → ℕ × ℕ → Bool
is_mark a b m = eqb a m.0 && eqb b m.1

abbrev pub SC : ℕ × ℕ
SC = (83, 67)

abbrev pub SG : ℕ × ℕ
SG = (83, 71)

abbrev pub CC : ℕ × ℕ
CC = (67, 67)

abbrev pub PK : ℕ × ℕ
PK = (80, 75)

abbrev pub SP : ℕ × ℕ
SP = (83, 80)

-- "`SG` is segment, rows"
abbrev pub leaf_fields : Parser Record
leaf_fields = do
  g ← word
  n ← word
  give (leaf g n)

-- "`SP` start, end, number of runs, and each run"
abbrev pub split_fields : Parser Record
split_fields = do
  a ← word
  b ← word
  n ← word
  rs ← runs n
  give (split a b rs)

-- "`SC` slots", "`CC` is n and `PK` is n"
abbrev pub count_field : (ℕ → Record) → Parser Record
count_field f = do
  n ← word
  give (f n)

unfoldable pub fields : ℕ → ℕ → Parser Record
fields a b =
    if is_mark a b SC then count_field slots
    else if is_mark a b SG then leaf_fields
    else if is_mark a b CC then count_field (join concat)
    else if is_mark a b PK then count_field (join pack)
    else if is_mark a b SP then split_fields
    else (λ bytes. none)

-- the record at the front; none: "job cut short, unknown mark"
unfoldable pub next_record : Parser Record
next_record [] = none
next_record (a ∷ []) = none
next_record (a ∷ b ∷ rest) = fields a b rest

-- Checking

-- What the records so far come to. `free`: the parentless nodes, the newest first. No slots: `SC` has not come.
pub record Draft : Type 0 where
  pub slots : ℕ
  pub nodes : List Node
  pub free : List ℕ
  pub splits : List Split

-- 02 (k): "Any concat or pack of one child is still read, but stands for that child". A job that is being read: the draft without such nodes, the
-- node records so far, those among them, and of each node of the draft its number in job order, the newest first.
pub record Reading : Type 0 where
  pub draft : Draft
  pub count : ℕ
  pub labels : List ℕ

abbrev pub no_node : Node
no_node = record { kind = segment; segment = 0; rows = 0; width = 0; parent = none; at = 0 }

abbrev pub node_at : List Node → ℕ → Node
node_at ns n = get no_node ns n

-- "Each number is returned when its cause holds, earlier checks passed": the first cause that holds, or the value
unfoldable pub unless : {A : Type 0} → List (ℕ × Bool) → A → Outcome A
unless [] x = accepted x
unless (c ∷ cs) x = elim c.1 [ true ↦ refused c.0 | false ↦ unless cs x ]

abbrev pub is_segment : Kind → Bool
is_segment segment = true
is_segment concat = false
is_segment pack = false

abbrev pub is_pack : Kind → Bool
is_pack segment = false
is_pack concat = false
is_pack pack = true

-- "Limits": the largest number of rows, nodes, columns, splits, runs and slots
abbrev pub max_rows : ℕ
max_rows = 4294967295

abbrev pub max_nodes : ℕ
max_nodes = 24

abbrev pub max_columns : ℕ
max_columns = 4

abbrev pub max_splits : ℕ
max_splits = 16

abbrev pub max_runs : ℕ
max_runs = 16

abbrev pub max_slots : ℕ
max_slots = 3

-- "slots 1 to 3 …, 0 and 4 give 3"; a second `SC` is out of sequence
abbrev pub accept_slots : ℕ → Draft → Outcome Draft
accept_slots n d =
    unless ((2, not (eqb d.slots 0)) ∷ (3, eqb n 0 || ltb max_slots n) ∷ [])
    (record { slots = n; nodes = d.nodes; free = d.free; splits = d.splits })

-- "record out of sequence": a node before `SC` or after a split
abbrev pub node_late : Draft → Bool
node_late d = eqb d.slots 0 || not (is_empty d.splits)

-- "one segment with two row counts"
abbrev pub other_rows : ℕ → ℕ → Node → Bool
other_rows g n x = is_segment x.kind && eqb x.segment g && not (eqb x.rows n)

abbrev pub new_node : Node → List Node → List ℕ → Draft → Draft
new_node x ns free d = record { slots = d.slots; nodes = ns ++ x ∷ []; free = length ns ∷ free; splits = d.splits }

abbrev pub leaf_node : ℕ → ℕ → Node
leaf_node g n = record { kind = segment; segment = g; rows = n; width = 1; parent = none; at = 0 }

abbrev pub new_leaf : ℕ → ℕ → Draft → Draft
new_leaf g n d = new_node (leaf_node g n) d.nodes d.free d

-- behind so many node records
abbrev pub accept_leaf : ℕ → ℕ → ℕ → Draft → Outcome Draft
accept_leaf count g n d = unless ((2, node_late d) ∷ (3, leb max_nodes count) ∷ (6, any (other_rows g n) d.nodes) ∷ []) (new_leaf g n d)

-- "each taking the n newest parentless nodes, oldest first"
abbrev pub newest : ℕ → Draft → List ℕ
newest n d = reverse (take n d.free)

-- "Width: 1, the children's, the fields' sum"
unfoldable pub width_of : Kind → List Node → ℕ
width_of k [] = 0
width_of k (x ∷ xs) = if is_pack k then sum_of (λ (y : Node). y.width) (x ∷ xs) else x.width

-- "a concat's children one after another; a pack's row joins the fields' rows"
unfoldable pub rows_of : Kind → List Node → ℕ
rows_of k [] = 0
rows_of k (x ∷ xs) = if is_pack k then x.rows else sum_of (λ (y : Node). y.rows) (x ∷ xs)

-- "concat children of unequal width, pack fields of unequal rows"
unfoldable pub unequal : Kind → List Node → Bool
unequal k [] = false
unequal k (x ∷ xs) =
    if is_pack k then any (λ (y : Node). not (eqb y.rows x.rows)) xs
    else any (λ (y : Node). not (eqb y.width x.width)) xs

abbrev pub with_parent : ℕ → Node → Node
with_parent p x = record { kind = x.kind; segment = x.segment; rows = x.rows; width = x.width; parent = some p; at = x.at }

unfoldable pub set_parents : ℕ → List ℕ → List Node → List Node
set_parents p [] ns = ns
set_parents p (c ∷ cs) ns = set_parents p cs (put no_node ns c (with_parent p (node_at ns c)))

abbrev pub joined : Kind → List Node → Node
joined k xs = record { kind = k; segment = 0; rows = rows_of k xs; width = width_of k xs; parent = none; at = 0 }

-- "no children, fewer parentless nodes than named"
abbrev pub childless : ℕ → Draft → Bool
childless n d = eqb n 0 || ltb (length d.free) n

-- what is asked of a join behind so many node records, and `more` behind it: "A pack's columns are counted only when all its children are there;
-- missing ones give 4."
abbrev pub join_causes : ℕ → Kind → ℕ → Draft → List (ℕ × Bool) → List (ℕ × Bool)
join_causes count k n d more =
    let xs = map (node_at d.nodes) (newest n d) in
    (2, node_late d) ∷ (3, leb max_nodes count) ∷ (3, not (childless n d) && ltb max_columns (width_of k xs)) ∷ (4, childless n d)
    ∷ (5, unequal k xs) ∷ (7, ltb max_rows (rows_of k xs)) ∷ more

abbrev pub new_join : Kind → ℕ → Draft → Draft
new_join k n d =
    new_node (joined k (map (node_at d.nodes) (newest n d))) (set_parents (length d.nodes) (newest n d) d.nodes) (drop n d.free) d

abbrev pub accept_join : ℕ → Kind → ℕ → Draft → Outcome Draft
accept_join count k n d = unless (join_causes count k n d []) (new_join k n d)

-- a stored one has two children at least
abbrev pub restore_join : Kind → ℕ → Draft → Outcome Draft
restore_join k n d = unless (join_causes (length d.nodes) k n d ((12, eqb n 1) ∷ [])) (new_join k n d)

-- "not one root"
abbrev pub rootless : Draft → Bool
rootless d = not (eqb (length d.free) 1)

-- the last node's rows
abbrev pub plan_rows : Draft → ℕ
plan_rows d = (node_at d.nodes (length d.nodes - 1)).rows

-- Runs as they are written

-- 02 (h): "17 if its length is 0, 18 if it starts before the end of the run before" (0 for the first, which no run starts before), "19 if it
-- passes the split's end"
abbrev pub read_fault : ℕ → ℕ → Run → Option ℕ
read_fault size last r =
    if eqb r.size 0 then some 17
    else if ltb r.start last then some 18
    else if ltb size (r.start + r.size) then some 19
    else none

-- "for each run in its turn": the first that is at fault, with its index among the runs as they are written, which are counted from i on
unfoldable pub read_faults : ℕ → ℕ → ℕ → List Run → Option Refusal
read_faults size i last [] = none
read_faults size i last (r ∷ rs) =
    elim (read_fault size last r) [ some n ↦ some (record { number = n; index = some i }) | none ↦ read_faults size (suc i) (r.start + r.size) rs ]

-- two runs that meet, as one
abbrev pub longer : Run → Run → Run
longer r q = record { start = r.start; size = r.size + q.size }

-- a run and those behind it: each that starts where it ends lengthens it
unfoldable pub join_onto : Run → List Run → List Run
join_onto r [] = r ∷ []
join_onto r (q ∷ qs) = elim (eqb (r.start + r.size) q.start) [ true ↦ join_onto (longer r q) qs | false ↦ r ∷ join_onto q qs ]

-- 02 (a): "A run that starts exactly where the one before ends is now accepted and means the two joined"
abbrev pub join_runs : List Run → List Run
join_runs [] = []
join_runs (r ∷ rs) = join_onto r rs

-- Runs as they are stored: no two of them meet

abbrev pub not_after : ℕ → Option ℕ → Bool
not_after n none = false
not_after n (some e) = leb n e

abbrev pub run_fault : ℕ → Option ℕ → Run → Bool
run_fault size before r = eqb r.size 0 || ltb size (r.start + r.size) || not_after r.start before

unfoldable pub runs_fault : ℕ → Option ℕ → List Run → Bool
runs_fault size before [] = false
runs_fault size before (r ∷ rs) = run_fault size before r || runs_fault size (some (r.start + r.size)) rs

-- Splits

abbrev pub new_split : Split → Draft → Draft
new_split x d = record { slots = d.slots; nodes = d.nodes; free = d.free; splits = d.splits ++ x ∷ [] }

-- what is asked of a split before its runs, and `more` behind it: "the root is counted at the first split"
abbrev pub split_causes : ℕ → ℕ → List Run → Draft → List (ℕ × Bool) → List (ℕ × Bool)
split_causes a b rs d more =
    (2, eqb d.slots 0) ∷ (3, is_empty d.nodes || leb max_splits (length d.splits) || ltb max_runs (length rs)) ∷ (4, rootless d)
    ∷ (8, ltb b a || ltb (plan_rows d) b) ∷ more

-- 02 (h): "in 9's old place", behind the other checks
abbrev pub unless_fault : {A : Type 0} → Option Refusal → Outcome A → Outcome A
unless_fault fault (refused_by r) = refused_by r
unless_fault none (accepted x) = accepted x
unless_fault (some r) (accepted x) = refused_by r

-- a split that is read holds its runs joined; they are counted as they are written
abbrev pub accept_split : ℕ → ℕ → List Run → Draft → Outcome Draft
accept_split a b rs d =
    unless_fault (read_faults (b - a) 0 0 rs) (unless (split_causes a b rs d []) (new_split (record { start = a; end = b; runs = join_runs rs }) d))

-- a stored one holds them as they are; whatever is wrong with a stored job is 12
abbrev pub restore_split : ℕ → ℕ → List Run → Draft → Outcome Draft
restore_split a b rs d = unless (split_causes a b rs d ((12, runs_fault (b - a) none rs) ∷ [])) (new_split (record { start = a; end = b; runs = rs }) d)

-- Records: those of the job bytes are accepted, those of a stored job restored

-- slots or a split: no node comes
abbrev pub goes_on : Reading → Draft → Reading
goes_on x d = record { draft = d; count = x.count; labels = x.labels }

-- a node more, whose label is its number "counted from 0 in job order"
abbrev pub grows : Reading → Draft → Reading
grows x d = record { draft = d; count = suc x.count; labels = x.count ∷ x.labels }

-- 02 (k): a join of one child "stands for that child and makes no pipeline; it still counts to the 24"
abbrev pub stands_for : Reading → Draft → Reading
stands_for x d = record { draft = x.draft; count = suc x.count; labels = x.labels }

abbrev pub read_as : (Draft → Reading) → Outcome Draft → Outcome Reading
read_as f (refused_by r) = refused_by r
read_as f (accepted d) = accepted (f d)

unfoldable pub accept : Record → Reading → Outcome Reading
accept (slots n) x = read_as (goes_on x) (accept_slots n x.draft)
accept (leaf g n) x = read_as (grows x) (accept_leaf x.count g n x.draft)
accept (join k n) x = read_as (if eqb n 1 then stands_for x else grows x) (accept_join x.count k n x.draft)
accept (split a b rs) x = read_as (goes_on x) (accept_split a b rs x.draft)

unfoldable pub restore : Record → Draft → Outcome Draft
restore (slots n) d = accept_slots n d
restore (leaf g n) d = accept_leaf (length d.nodes) g n d
restore (join k n) d = restore_join k n d
restore (split a b rs) d = restore_split a b rs d

-- The whole job

-- the children of a node, oldest first
unfoldable pub kids_from : ℕ → ℕ → List Node → List ℕ
kids_from i n [] = []
kids_from i n (x ∷ xs) = elim (is_some n x.parent) [ true ↦ i ∷ kids_from (suc i) n xs | false ↦ kids_from (suc i) n xs ]

abbrev pub kids : List Node → ℕ → List ℕ
kids ns n = kids_from 0 n ns

-- where row 0 of a child stands among the rows of its parent
abbrev pub offset : List Node → ℕ → ℕ → ℕ
offset ns p n =
    if is_pack (node_at ns p).kind then 0
    else sum_of (λ c. (node_at ns c).rows) (filter (λ c. ltb c n) (kids ns p))

-- the root's row that row 0 of a node is in: its own offset and those above it, of which there are fewer than nodes
unfoldable pub row_at : ℕ → List Node → ℕ → ℕ
row_at zero ns n = 0
row_at (suc f) ns n = elim (node_at ns n).parent [ none ↦ 0 | some p ↦ offset ns p n + row_at f ns p ]

unfoldable pub place_from : ℕ → List Node → List Node → List Node
place_from i ns [] = []
place_from i ns (x ∷ xs) =
    record { kind = x.kind; segment = x.segment; rows = x.rows; width = x.width; parent = x.parent; at = row_at max_nodes ns i } ∷ place_from (suc i) ns xs

-- "the root is counted at the first split or the end"; "no node at all gives 3"
abbrev pub finish : Draft → Outcome Job
finish d =
    unless ((2, eqb d.slots 0) ∷ (3, is_empty d.nodes) ∷ (4, rootless d) ∷ [])
    (record { slots = d.slots; nodes = place_from 0 d.nodes d.nodes; splits = d.splits })

-- "then records in sequence, each in rising number": a record is finished before the next is read. Each takes some bytes, so their
-- number is fuel enough.
unfoldable pub read_all : {A : Type 0} → (Record → A → Outcome A) → ℕ → A → List ℕ → Outcome A
read_all f zero x bytes = accepted x
read_all f (suc n) x [] = accepted x
read_all f (suc n) x (b ∷ bs) =
    elim (next_record (b ∷ bs)) [
      | none ↦ refused 2
      | some r ↦ elim (f r.0 x) [ refused_by q ↦ refused_by q | accepted y ↦ read_all f n y r.1 ]
    ]

-- before the first record
abbrev pub no_draft : Draft
no_draft = record { slots = 0; nodes = []; free = []; splits = [] }

abbrev pub no_reading : Reading
no_reading = record { draft = no_draft; count = 0; labels = [] }

abbrev pub records : List ℕ → Outcome Reading
records bytes = read_all accept (length bytes) no_reading bytes

-- Opening's checks but 1, over the whole job bytes.
unfoldable pub parse : List ℕ → Outcome Job
parse bytes = elim (records bytes) [ refused_by n ↦ refused_by n | accepted x ↦ finish x.draft ]

-- 02 (i): of each node of an accepted job its number, "counted from 0 in job order"
unfoldable pub labels : List ℕ → List ℕ
labels bytes = elim (records bytes) [ refused_by n ↦ [] | accepted x ↦ reverse x.labels ]

-- The job as it is written, of which a demand speaks: each node record is a node

unfoldable pub accept_written : Record → Draft → Outcome Draft
accept_written (slots n) d = accept_slots n d
accept_written (leaf g n) d = accept_leaf (length d.nodes) g n d
accept_written (join k n) d = accept_join (length d.nodes) k n d
accept_written (split a b rs) d = accept_split a b rs d

unfoldable pub as_written : List ℕ → Outcome Job
as_written bytes = elim (read_all accept_written (length bytes) no_draft bytes) [ refused_by n ↦ refused_by n | accepted d ↦ finish d ]
