-- `Ranged` in parts, each over the tables or the entries that it reads, so that a rule keeps those of other tables as they stand.
use Rattle.std.specs.Prelude.{◌≡◌, ◌⊎◌, Bool, true, false, List, [], ◌∷◌, ℕ, ◌+◌, ◌<◌, ◌≤◌, length, ltb, if◌then◌else◌}
use Rattle.std.proofs.Math.Option.{Option, none, some, get_or}
use Rattle.rules.specs.Table.{get, has, given}
use Rattle.rules.specs.Job.{Kind, Job, is_segment, is_pack}
use Rattle.rules.specs.Plan.{Piece, pieces_of, kept_pieces, Cell, node_of, root_of, is_leaf, names}
use Rattle.rules.specs.InletSet.{InletSet}
use Rattle.rules.specs.Port.{Batch, Seen, waiting}
use Rattle.rules.specs.Operators.{io, inlet, State, runnable, blocked, outlet, Source, segment, concat, pack}
use Rattle.rules.specs.Machine.{Machine, Pipeline, Stage, Reader, nobody, slot, pipe, Port, Read, Output, node_at_place, slot_at_place, share_port, leaf_of_port, slot_places, places, port_places}
use Rattle.rules.specs.Check.{is_concat, batch_ok}
use Rattle.laws.specs.JobOk.{JobOk}
use Rattle.laws.specs.Rows.{All}
use Rattle.order.specs.Inv.{Live, There, pipe_of, source_of, stage_of, inlets_of, reader_of, queue_of, split_in, At, whole, bit, is_waits, Differ}
use Rattle.order.specs.Ranged.{IsFirst}

-- Entries

-- different numbers below n
abbrev pub SetFits : ℕ → InletSet → Type 0
SetFits n s = Differ s × ((i : ℕ) → has i s ≡ true → i < n)

-- the runs of a place, as `pieces_at` has them
abbrev pub pieces_for : Job → List (Option ℕ) → ℕ → List Piece
pieces_for j A p =
    if ltb p slot_places then kept_pieces j (node_at_place p) (get_or (get none A (slot_at_place p)) 0)
    else pieces_of (node_at_place p) (node_of j (node_at_place p)).segment (record { start = 0; size = (node_of j (node_at_place p)).rows } ∷ [])

-- ports of the children of a node, in its slot, rising
abbrev pub Fed : Job → ℕ → List ℕ → Type 0
Fed j p [] = Unit {0}
Fed j p (x ∷ xs) = (slot_at_place x ≡ slot_at_place p) × ((node_of j (node_at_place x)).parent ≡ some (node_at_place p)) × All (λ y. x < y) xs × Fed j p xs

-- one shared port of the leaf's own segment
abbrev pub FedShared : Job → ℕ → List ℕ → Type 0
FedShared j p xs =
    (x : ℕ) × (xs ≡ x ∷ []) × (slot_places ≤ x) × (x < port_places) × (p < slot_places)
    × (names j (node_at_place p) (leaf_of_port x) ≡ true)

-- of n inlets, those seen waiting are in the waiting set
pub record PackFits (n : ℕ) (w : InletSet) (es : List Seen) : Type 0 where
  pub size : length es ≡ n
  pub set : SetFits n w
  pub waits : (i : ℕ) → i < n → has i w ≡ is_waits (get waiting es i)

abbrev pub SourceFits : Job → List (Option ℕ) → ℕ → Kind → Source → List ℕ → InletSet → List Seen → Type 0
SourceFits j A p k (segment a b e) xs w es = (is_segment k ≡ true) × (xs ≡ []) × (e ≤ length (pieces_for j A p))
SourceFits j A p k (concat i) xs w es = (i ≤ length xs) × (p < slot_places) × (((is_concat k ≡ true) × Fed j p xs) ⊎ ((is_segment k ≡ true) × FedShared j p xs))
SourceFits j A p k pack xs w es = (is_pack k ≡ true) × (p < slot_places) × Fed j p xs × PackFits (length xs) w es

pub record StageFits (j : Job) (A : List (Option ℕ)) (p : ℕ) (st : Stage) (xs : List ℕ) : Type 0 where
  pub cut : (n : ℕ) → st.cut ≡ some n → (n ≤ length (pieces_for j A p)) × FedShared j p xs
  pub continuing : st.continuing ≡ true → given st.cut ≡ true
  pub finishing : (n : ℕ) → st.finishing ≡ some n → n ≤ bit (given st.cut)

abbrev pub StateFits : ℕ → ℕ → State → Type 0
StateFits p n runnable = Unit {0}
StateFits p n (blocked io) = Unit {0}
StateFits p n (blocked (inlet i)) = i < n
StateFits p n outlet = p < slot_places

-- a node of the job, in an active slot or, for a shared source, a leaf
abbrev pub PlaceFits : Job → List (Option ℕ) → ℕ → Type 0
PlaceFits j A p =
    (node_at_place p < length j.nodes) × (p < slot_places → (s : ℕ) × (split_in A (slot_at_place p) ≡ some s)) × (slot_places ≤ p → is_leaf j (node_at_place p) ≡ true)

pub record PipeFits (j : Job) (A : List (Option ℕ)) (made p : ℕ) (x : Pipeline) (src : Source) (st : Stage) (xs : List ℕ) (t c w : InletSet) (es : List Seen) : Type 0 where
  pub bound : p < places
  pub place : PlaceFits j A p
  pub number : x.number < made
  pub source : SourceFits j A p (node_of j (node_at_place p)).kind src xs w es
  pub stage : StageFits j A p st xs
  pub state : StateFits p (length xs) x.state
  pub changed : SetFits (length xs) c
  pub touched : SetFits (length xs) t

-- n rows from the cell on are rows of a segment of the job
abbrev pub CellFits : Job → ℕ → Cell → Type 0
CellFits j n c =
    (l : ℕ) × (l < length j.nodes) × (is_segment (node_of j l).kind ≡ true) × ((node_of j l).segment ≡ c.segment)
    × (c.row + n ≤ (node_of j l).rows)

-- at least one row, no more columns than the node has, each with rows that its segment has
abbrev pub BatchFits : Job → ℕ → Batch → Type 0
BatchFits j w b = (1 ≤ b.rows) × (length b.cells ≤ w) × All (CellFits j b.rows) b.cells

-- Tables

abbrev pub PipesFit : Job → List (Option ℕ) → ℕ → List Pipeline → List Source → List Stage → List (List ℕ) → List InletSet → List InletSet → List InletSet → List (List Seen) → Type 0
PipesFit j A made P S G I T C W E =
    (p : ℕ) → Live P p → PipeFits j A made p (pipe_of P p) (source_of S p) (stage_of G p) (inlets_of I p) (get [] T p) (get [] C p) (get [] W p) (get [] E p)

-- a port that names a reader is one of its inlets
abbrev pub ReaderFits : Job → List Pipeline → List (List ℕ) → ℕ → Reader → Type 0
ReaderFits j P I x nobody = Unit {0}
ReaderFits j P I x slot = (x < slot_places) × (node_at_place x ≡ root_of j)
ReaderFits j P I x (pipe p i) = (p < slot_places) × Live P p × At (inlets_of I p) i x

pub record PortFits (j : Job) (A : List (Option ℕ)) (P : List Pipeline) (I : List (List ℕ)) (x : ℕ) (r : Reader) : Type 0 where
  pub bound : x < port_places
  pub place : x < slot_places → PlaceFits j A x
  pub share : slot_places ≤ x → (l : ℕ) × (t : ℕ) × (x ≡ share_port l t) × (t < length j.splits) × (is_leaf j l ≡ true)
  pub reader : ReaderFits j P I x r

pub record PortsFit (j : Job) (A : List (Option ℕ)) (P : List Pipeline) (I : List (List ℕ)) (O : List Port) : Type 0 where
  pub ports : (x : ℕ) → There O x → PortFits j A P I x (reader_of O x)
  -- a port that is not in use names nobody
  pub vacant : (x : ℕ) → There O x ⊎ (reader_of O x ≡ nobody)

-- at most 8 batches of the node's width, or a whole segment
pub record QueueFits (j : Job) (x : ℕ) (q : List Batch) : Type 0 where
  pub bounded : x < slot_places → (length q ≤ 8) × All (BatchFits j (node_of j (node_at_place x)).width) q
  pub share : (l t : ℕ) → t < 16 → x ≡ share_port l t → (q ≡ []) ⊎ ((q ≡ whole j l ∷ []) × (1 ≤ (node_of j l).rows))

abbrev pub QueuesFit : Job → List (List Batch) → Type 0
QueuesFit j Q = (x : ℕ) → QueueFits j x (queue_of Q x)

abbrev pub Lengths : List Pipeline → List Source → List Stage → List InletSet → List InletSet → List InletSet → List (List Seen) → List Port → List (List Batch) → Type 0
Lengths P S G T C W E O Q =
    (length P ≡ places) × (length S ≡ places) × (length G ≡ places) × (length T ≡ places) × (length C ≡ places) × (length W ≡ places) × (length E ≡ places) × (length O ≡ port_places)
    × (length Q ≡ port_places)

-- what a run leaves as it is
pub record Still (j : Job) (I : List (List ℕ)) (top next : ℕ) (A : List (Option ℕ)) (fin unb : List Bool) (outs : List Output) : Type 0 where
  pub inlets : length I ≡ places
  pub active_size : length A ≡ 3
  pub finished : length fin ≡ 16
  pub unbuilt_size : length unb ≡ 24
  pub is_next : next ≤ length j.splits
  pub made : top ≤ places
  pub outputs_size : length outs ≤ 8
  pub active : (k s : ℕ) → split_in A k ≡ some s → (k < j.slots) × (s < length j.splits)
  pub outputs : All (λ (o : Output). (o.split < length j.splits) × (batch_ok j (node_of j (root_of j)).width o.batch ≡ true)) outs
  pub unbuilt : (g : ℕ) → get false unb g ≡ true → IsFirst j g

abbrev pub ReadsFit : Job → List Read → Type 0
ReadsFit j R = (length R ≤ 24) × All (λ (r : Read). IsFirst j r.leaf) R × All (λ (r : Read). (p : ℕ) → r.owner ≡ some p → p < places) R

-- no more than m numbers, all below n
abbrev pub Short : ℕ → ℕ → List ℕ → Type 0
Short m n l = (length l ≤ m) × All (λ x. x < n) l

pub record Fit (j : Job) (P : List Pipeline) (S : List Source) (G : List Stage) (I : List (List ℕ)) (T C W : List InletSet) (E : List (List Seen)) (O : List Port) (Q : List (List Batch)) (ready' free : List ℕ) (made : ℕ) (R : List Read) (new dirt : List ℕ) (next : ℕ) (A : List (Option ℕ)) (fin unb : List Bool) (outs : List Output) : Type 0 where
  pub job : JobOk j
  pub still : Still j I made next A fin unb outs
  pub sizes : Lengths P S G T C W E O Q
  pub pipes : PipesFit j A made P S G I T C W E
  pub ports : PortsFit j A P I O
  pub queues : QueuesFit j Q
  pub ready : Short places places ready'
  pub freed : Short places made free
  pub reads : ReadsFit j R
  pub news : Short 24 (length R) new
  pub dirty : Short 3 j.slots dirt

-- all but whether a cause of 14 came up
abbrev pub Fits : Machine → Type 0
Fits m =
    Fit m.job m.pipes m.sources m.stages m.inlets m.touched m.changed m.waits m.seen m.ports m.queues m.ready m.freed m.made
    m.reads m.news m.dirty m.next m.active m.finished m.unbuilt m.outputs
