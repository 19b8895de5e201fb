-- The invariant of a scan, in groups. Each group has for parameters the tables that it reads, so that a rule that writes others keeps it
-- as it stands. What a run in progress relaxes is a parameter too: `who` are the pipelines that are not running, `loud` the ports that may
-- be marked, `freed` those whose writer may still have to be woken, `busy` the shared source that may have emitted and not closed.
use Rattle.std.specs.Prelude.{◌≡◌, ◌≢◌, ◌⊎◌, Bool, true, false, ◌&&◌, not, List, [], ◌∷◌, ◌++◌, map, ℕ, zero, suc, ◌+◌, ◌<◌, ◌≤◌, length, drop, eqb}
use Rattle.std.proofs.Math.Option.{Option, none, some}
use Rattle.rules.specs.Table.{get, given, has}
use Rattle.rules.specs.Job.{Kind, segment as aSegment, concat as aConcat, pack as aPack, Job}
use Rattle.rules.specs.Plan.{Cell, Row, Piece, kept_pieces, node_of, root_of, kept, keeps, kept_kids, kept_rows, is_whole, is_leaf, first_leaf, overlaps, is_shared}
use Rattle.rules.specs.InletSet.{InletSet}
use Rattle.rules.specs.Port.{Batch, batch_rows, Seen, waiting, ready, ended, sees, is_full, capacity}
use Rattle.rules.specs.Operators.{io, inlet, State, runnable, blocked, outlet, Source, segment, concat, pack}
use Rattle.rules.specs.Machine.{Pipeline, Stage, Reader, nobody, slot, pipe, Port, Read, Output, place, node_at_place, slot_at_place, share_port, slot_places, places, no_pipe, no_source, no_stage, no_port}
use Rattle.laws.specs.Rows.{run_rows, sides}

-- Reads of tables

abbrev pub pipe_of : List Pipeline → ℕ → Pipeline
pipe_of P p = get no_pipe P p

abbrev pub Live : List Pipeline → ℕ → Type 0
Live P p = (pipe_of P p).live ≡ true

abbrev pub state_of : List Pipeline → ℕ → State
state_of P p = (pipe_of P p).state

abbrev pub source_of : List Source → ℕ → Source
source_of S p = get no_source S p

abbrev pub stage_of : List Stage → ℕ → Stage
stage_of G p = get no_stage G p

abbrev pub inlets_of : List (List ℕ) → ℕ → List ℕ
inlets_of I p = get [] I p

abbrev pub port_of : List Port → ℕ → Port
port_of O x = get no_port O x

abbrev pub There : List Port → ℕ → Type 0
There O x = (port_of O x).there ≡ true

abbrev pub shut : List Port → ℕ → Bool
shut O x = (port_of O x).closed

abbrev pub reader_of : List Port → ℕ → Reader
reader_of O x = (port_of O x).reader

abbrev pub queue_of : List (List Batch) → ℕ → List Batch
queue_of Q x = get [] Q x

abbrev pub split_in : List (Option ℕ) → ℕ → Option ℕ
split_in A k = get none A k

-- x stands at place i of a list
abbrev pub At : List ℕ → ℕ → ℕ → Type 0
At [] i x = ⊥
At (y ∷ ys) zero x = y ≡ x
At (y ∷ ys) (suc i) x = At ys i x

abbrev pub flat : List Batch → List Row
flat [] = []
flat (b ∷ bs) = batch_rows b ++ flat bs

abbrev pub bit : Bool → ℕ
bit true = 1
bit false = 0

abbrev pub count : ℕ → List ℕ → ℕ
count p [] = 0
count p (x ∷ xs) = bit (eqb p x) + count p xs

-- Slots: the active splits are below `next` and differ; a finished one is not active.

pub record Slots (j : Job) (next : ℕ) (A : List (Option ℕ)) (fin : List Bool) : Type 0 where
  pub bound : next ≤ length j.splits
  pub active : (k s : ℕ) → split_in A k ≡ some s → (k < j.slots) × (s < next)
  pub apart : (k l s : ℕ) → split_in A k ≡ some s → split_in A l ≡ some s → k ≡ l
  pub over : (s : ℕ) → get false fin s ≡ true → (s < next) × ((k : ℕ) → split_in A k ≢ some s)

-- Pipelines: what stands at a place is what lowering laid there.

pub record Claimed (j : Job) (p s : ℕ) (st : Stage) (xs : List ℕ) : Type 0 where
  pub leaf : ℕ
  pub is_leaf : is_leaf j leaf ≡ true
  pub same : (node_of j leaf).segment ≡ (node_of j (node_at_place p)).segment
  pub is : xs ≡ share_port leaf s ∷ []
  pub cut : given st.cut ≡ not (is_whole (node_of j (node_at_place p)).rows (kept j (node_at_place p) s))

abbrev pub Joins : Job → ℕ → ℕ → Stage → List ℕ → Type 0
Joins j p s st xs = (xs ≡ map (place (slot_at_place p)) (kept_kids j (node_at_place p) s)) × (st.cut ≡ none)

abbrev pub Form : Job → ℕ → ℕ → Kind → Source → Stage → List ℕ → Type 0
Form j p s aSegment (segment a b e) st xs = (xs ≡ []) × (st.cut ≡ none)
Form j p s aSegment (concat i) st xs = Claimed j p s st xs
Form j p s aSegment pack st xs = ⊥
Form j p s aConcat (segment a b e) st xs = ⊥
Form j p s aConcat (concat i) st xs = Joins j p s st xs
Form j p s aConcat pack st xs = ⊥
Form j p s aPack (segment a b e) st xs = ⊥
Form j p s aPack (concat i) st xs = ⊥
Form j p s aPack pack st xs = Joins j p s st xs

pub record SlotPipe (j : Job) (A : List (Option ℕ)) (p : ℕ) (src : Source) (st : Stage) (xs : List ℕ) : Type 0 where
  pub split : ℕ
  pub is : split_in A (slot_at_place p) ≡ some split
  pub node : node_at_place p < length j.nodes
  pub keep : keeps j (node_at_place p) split ≡ true
  pub form : Form j p split (node_of j (node_at_place p)).kind src st xs

abbrev pub is_source : Source → Bool
is_source (segment a b e) = true
is_source (concat i) = false
is_source pack = false

pub record SharePipe (j : Job) (p : ℕ) (src : Source) (st : Stage) (xs : List ℕ) : Type 0 where
  pub leaf : is_leaf j (node_at_place p) ≡ true
  pub source : is_source src ≡ true
  pub none_in : xs ≡ []
  pub uncut : st.cut ≡ none

pub record Pipes (j : Job) (A : List (Option ℕ)) (P : List Pipeline) (S : List Source) (G : List Stage) (I : List (List ℕ)) : Type 0 where
  pub bound : (p : ℕ) → Live P p → p < places
  pub slots : (p : ℕ) → Live P p → p < slot_places → SlotPipe j A p (source_of S p) (stage_of G p) (inlets_of I p)
  pub shares : (p : ℕ) → Live P p → slot_places ≤ p → SharePipe j p (source_of S p) (stage_of G p) (inlets_of I p)
  -- only a stage continues, and only a segment source that has emitted says More
  pub stages : (p : ℕ) → Live P p → (stage_of G p).continuing ≡ true → given (stage_of G p).cut ≡ true

-- Ports: writers, readers and slots name each other.

pub record SlotPort (j : Job) (A : List (Option ℕ)) (O : List Port) (x : ℕ) : Type 0 where
  pub split : ℕ
  pub is : split_in A (slot_at_place x) ≡ some split
  pub node : node_at_place x < length j.nodes
  pub keep : keeps j (node_at_place x) split ≡ true
  pub read : reader_of O x ≢ nobody
  pub root : reader_of O x ≡ slot → node_at_place x ≡ root_of j

pub record Ports (j : Job) (A : List (Option ℕ)) (who : ℕ → Type 0) (P : List Pipeline) (I : List (List ℕ)) (O : List Port) (Q : List (List Batch)) : Type 0 where
  pub alive : (p : ℕ) → Live P p → p < slot_places → who p → There O p × (shut O p ≡ false)
  pub opens : (x : ℕ) → x < slot_places → There O x → shut O x ≡ false → Live P x
  pub inlets : (p i x : ℕ) → Live P p → At (inlets_of I p) i x → There O x × (reader_of O x ≡ pipe p i)
  pub readers : (x p i : ℕ) → There O x → reader_of O x ≡ pipe p i → Live P p × At (inlets_of I p) i x
  pub slots : (x : ℕ) → x < slot_places → There O x → SlotPort j A O x
  pub roots : (k s : ℕ) → split_in A k ≡ some s → There O (place k (root_of j)) × (reader_of O (place k (root_of j)) ≡ slot)
  pub absent : (x : ℕ) → (port_of O x).there ≡ false → queue_of Q x ≡ []
  pub blank : (x : ℕ) → (port_of O x).there ≡ false → shut O x ≡ false

-- Shared ports and their sources.

-- the whole of leaf l's segment, as a batch
abbrev pub whole : Job → ℕ → Batch
whole j l = record { rows = (node_of j l).rows; cells = record { segment = (node_of j l).segment; row = 0 } ∷ [] }

-- p is a live shared source of leaf l's segment
abbrev pub Sources : Job → List Pipeline → ℕ → ℕ → Type 0
Sources j P l p = Live P p × (slot_places ≤ p) × ((node_of j (node_at_place p)).segment ≡ (node_of j l).segment)

-- how many runs a source has emitted
abbrev pub emitted : Source → ℕ
emitted (segment a b e) = e
emitted (concat i) = 0
emitted pack = 0

-- an open port's source has not emitted, and the port is empty; or it is the busy one, has emitted and not closed yet
abbrev pub Before : (ℕ → Type 0) → Job → ℕ → ℕ → Source → List Batch → Type 0
Before busy j l p src q = ((emitted src ≡ 0) × (q ≡ [])) ⊎ (busy p × (emitted src ≡ 1) × (q ≡ whole j l ∷ []))

pub record SharePort (j : Job) (busy : ℕ → Type 0) (unb : List Bool) (P : List Pipeline) (S : List Source) (O : List Port) (Q : List (List Batch)) (x : ℕ) : Type 0 where
  pub leaf : ℕ
  pub split : ℕ
  pub is : x ≡ share_port leaf split
  pub below : split < length j.splits
  pub is_leaf : is_leaf j leaf ≡ true
  pub pair : overlaps j leaf split ≡ true
  pub shared : is_shared j leaf ≡ true
  pub built : get false unb (first_leaf j leaf) ≡ false
  pub holds : (queue_of Q x ≡ []) ⊎ (queue_of Q x ≡ whole j leaf ∷ [])
  pub opens : shut O x ≡ false → (p : ℕ) × Sources j P leaf p × Before busy j leaf p (source_of S p) (queue_of Q x)
  pub shuts : shut O x ≡ true → (p : ℕ) → Sources j P leaf p → busy p
  pub full : shut O x ≡ true → reader_of O x ≡ nobody → queue_of Q x ≡ whole j leaf ∷ []
  pub unslotted : reader_of O x ≢ slot

pub record Shares (j : Job) (busy : ℕ → Type 0) (next : ℕ) (unb : List Bool) (P : List Pipeline) (S : List Source) (O : List Port) (Q : List (List Batch)) : Type 0 where
  pub ports : (x : ℕ) → slot_places ≤ x → There O x → SharePort j busy unb P S O Q x
  -- a built shared segment: the ports of later splits wait
  pub waits : (l t : ℕ) → is_leaf j l ≡ true → is_shared j l ≡ true → get false unb (first_leaf j l) ≡ false → next ≤ t → t < length j.splits
      → overlaps j l t ≡ true → There O (share_port l t) × (reader_of O (share_port l t) ≡ nobody)
  pub unbuilt : (g : ℕ) → get false unb g ≡ true → (is_leaf j g ≡ true) × (first_leaf j g ≡ g) × (is_shared j g ≡ true)

-- Rows: what is still to come out of each port (F) and to be written by each pipeline (W). `hand` is what the pipeline `me` has taken and not
-- written yet.

-- the segment and the runs of a place, as `segment_at` and `pieces_at` have them
abbrev pub segment_of : Job → ℕ → ℕ
segment_of j p = (node_of j (node_at_place p)).segment

abbrev pub pieces_in : Job → ℕ → Option ℕ → List Piece
pieces_in j p none = kept_pieces j (node_at_place p) 0
pieces_in j p (some s) = kept_pieces j (node_at_place p) s

abbrev pub still : Bool → List Row → List Row
still true w = []
still false w = w

abbrev pub join : (ℕ → List Row) → List ℕ → List Row
join F [] = []
join F (x ∷ xs) = F x ++ join F xs

-- rows that go through the cutting stage, if there is one: the whole segment comes out as its kept runs
abbrev pub staged : List Piece → Option ℕ → List Row → List Row
staged ps none rows = rows
staged ps (some at) [] = []
staged ps (some at) (r ∷ rows) = run_rows ps

-- what a continuing stage still has to give
abbrev pub pending : List Piece → Bool → Option ℕ → List Row
pending ps false cut = []
pending ps true none = []
pending ps true (some at) = run_rows (drop at ps)

abbrev pub will : (ℕ → List Row) → List Piece → Source → Stage → List ℕ → List Row
will F ps (segment a b e) st xs = run_rows (drop e ps)
will F ps (concat i) st xs = pending ps st.continuing st.cut ++ staged ps st.cut (join F (drop i xs))
will F ps pack st xs = sides (map F xs)

-- rows of a shared port: the whole segment while it is open or holds it
abbrev pub share_rows : List Row → Bool → List Batch → List Row
share_rows rows closed [] = still closed rows
share_rows rows closed (b ∷ bs) = rows

pub record Flow (j : Job) (A : List (Option ℕ)) (P : List Pipeline) (S : List Source) (G : List Stage) (I : List (List ℕ)) (O : List Port) (Q : List (List Batch)) (me : ℕ) (hand : List Row) (F W : ℕ → List Row) : Type 0 where
  pub port : (x : ℕ) → x < slot_places → F x ≡ flat (queue_of Q x) ++ still (shut O x) (W x)
  pub share : (l t : ℕ) → t < 16 → F (share_port l t) ≡ share_rows (batch_rows (whole j l)) (shut O (share_port l t)) (queue_of Q (share_port l t))
  pub pipes : (p : ℕ) → p < slot_places → Live P p → p ≢ me
      → W p ≡ will F (pieces_in j p (split_in A (slot_at_place p))) (source_of S p) (stage_of G p) (inlets_of I p)
  pub mine : me < slot_places → Live P me → W me ≡ hand ++ will F (pieces_in j me (split_in A (slot_at_place me))) (source_of S me) (stage_of G me) (inlets_of I me)
  -- a source that has ended has nothing left to write, and a pack's inlets have equally many rows to come
  pub ends : (p : ℕ) → p < slot_places → Live P p → given (stage_of G p).finishing ≡ true → W p ≡ []
  pub even : (p i h x y : ℕ) → Live P p → source_of S p ≡ pack → At (inlets_of I p) i x → At (inlets_of I p) h y → length (F x) ≡ length (F y)

-- Inlets that have ended: those before a concat's current one, and all at the end.

abbrev pub Ended : List Port → List (List Batch) → ℕ → Type 0
Ended O Q x = (shut O x ≡ true) × (queue_of Q x ≡ [])

pub record Past (P : List Pipeline) (S : List Source) (G : List Stage) (I : List (List ℕ)) (O : List Port) (Q : List (List Batch)) : Type 0 where
  pub before : (p c i x : ℕ) → Live P p → source_of S p ≡ concat c → At (inlets_of I p) i x → i < c → Ended O Q x
  pub within : (p c : ℕ) → Live P p → source_of S p ≡ concat c → c ≤ length (inlets_of I p)
  pub all : (p i x : ℕ) → Live P p → given (stage_of G p).finishing ≡ true → At (inlets_of I p) i x → Ended O Q x
  pub emit : (p : ℕ) → Live P p → given (stage_of G p).finishing ≡ true → (stage_of G p).continuing ≡ false
  -- only a segment source that has emitted says More
  pub more : (p : ℕ) → Live P p → (stage_of G p).more ≡ true → (is_source (source_of S p) ≡ true) × (1 ≤ emitted (source_of S p))
  -- at most all stages have finished
  pub stage_count : (p n : ℕ) → Live P p → (stage_of G p).finishing ≡ some n → n ≤ bit (given (stage_of G p).cut)
  -- a segment source that has ended has emitted
  pub spent : (p : ℕ) → Live P p → given (stage_of G p).finishing ≡ true → is_source (source_of S p) ≡ true → 1 ≤ emitted (source_of S p)

-- What each split has put out, holds, and has to come.

-- `out`: the rows put out so far, by split
abbrev pub held_rows : ℕ → List Output → List Row
held_rows s [] = []
held_rows s (o ∷ os) = (elim (eqb o.split s) [ true ↦ batch_rows o.batch | false ↦ [] ]) ++ held_rows s os

pub record Splits (j : Job) (next : ℕ) (A : List (Option ℕ)) (outs : List Output) (F out : ℕ → List Row) : Type 0 where
  pub active : (k s : ℕ) → split_in A k ≡ some s → out s ++ held_rows s outs ++ F (place k (root_of j)) ≡ kept_rows j s
  pub over : (s : ℕ) → s < next → ((k : ℕ) → split_in A k ≢ some s) → out s ++ held_rows s outs ≡ kept_rows j s
  pub later : (s : ℕ) → next ≤ s → out s ++ held_rows s outs ≡ []

-- Scheduling

abbrev pub is_run : State → Bool
is_run runnable = true
is_run (blocked b) = false
is_run outlet = false

-- the ready stack holds each runnable pipeline once
pub record Queued (who : ℕ → Type 0) (P : List Pipeline) (ready : List ℕ) : Type 0 where
  pub flags : (p : ℕ) → Live P p → who p → (pipe_of P p).queued ≡ is_run (state_of P p)
  pub counts : (p : ℕ) → count p ready ≡ bit ((pipe_of P p).live && (pipe_of P p).queued)

-- a port with nothing in it that is open, or whose reader has not been told yet
abbrev pub Idle : List Port → List (List Batch) → ℕ → Type 0
Idle O Q x = ((queue_of Q x ≡ []) × (shut O x ≡ false)) ⊎ ((port_of O x).changed ≡ true)

-- a full port, or one whose writer has not been told yet
abbrev pub Full : (ℕ → Type 0) → List (List Batch) → ℕ → Type 0
Full freed Q x = (is_full capacity (queue_of Q x) ≡ true) ⊎ freed x

-- a read has been asked for and has not come
abbrev pub pend : Source → Bool
pend (segment true false zero) = true
pend (segment true false (suc e)) = false
pend (segment true true e) = false
pend (segment false b e) = false
pend (concat i) = false
pend pack = false

abbrev pub is_io : State → Bool
is_io runnable = false
is_io (blocked io) = true
is_io (blocked (inlet i)) = false
is_io outlet = false

pub record Waits (who freed : ℕ → Type 0) (P : List Pipeline) (S : List Source) (I : List (List ℕ)) (O : List Port) (Q : List (List Batch)) : Type 0 where
  pub on_io : (p : ℕ) → Live P p → who p → pend (source_of S p) ≡ is_io (state_of P p)
  pub on_inlet : (p i : ℕ) → Live P p → state_of P p ≡ blocked (inlet i) → (x : ℕ) × At (inlets_of I p) i x × Idle O Q x
  pub on_outlet : (p : ℕ) → Live P p → state_of P p ≡ outlet → (p < slot_places) × Full freed Q p

-- no number stands twice
abbrev pub Differ : List ℕ → Type 0
Differ [] = Unit {0}
Differ (k ∷ ks) = (has k ks ≡ false) × Differ ks

-- a slot with something to take, or whose port is closed, is dirty, or the mark has not been passed on yet
pub record Dirt (j : Job) (A : List (Option ℕ)) (O : List Port) (Q : List (List Batch)) (dirty : List ℕ) : Type 0 where
  pub clean : (k s : ℕ) → split_in A k ≡ some s → has k dirty ≡ false → Idle O Q (place k (root_of j))
  pub active : (k : ℕ) → has k dirty ≡ true → (s : ℕ) × (split_in A k ≡ some s)
  pub differ : Differ dirty

-- marks and touched inlets belong to the run in progress
pub record Quiet (who loud : ℕ → Type 0) (P : List Pipeline) (O : List Port) (T : List InletSet) : Type 0 where
  pub marks : (x : ℕ) → (port_of O x).changed ≡ true → loud x
  pub touches : (p : ℕ) → Live P p → who p → get [] T p ≡ []
  -- only a port in use is marked
  pub present : (x : ℕ) → (port_of O x).changed ≡ true → There O x

-- Packs: what is not marked changed was seen as it is.

abbrev pub is_waits : Seen → Bool
is_waits waiting = true
is_waits ready = false
is_waits ended = false

abbrev pub shows_at : List Port → List (List Batch) → ℕ → Seen
shows_at O Q x = sees (queue_of Q x) (shut O x)

pub record Packs (P : List Pipeline) (S : List Source) (I : List (List ℕ)) (O : List Port) (Q : List (List Batch)) (C W : List InletSet) (E : List (List Seen)) : Type 0 where
  pub size : (p : ℕ) → Live P p → source_of S p ≡ pack → length (get [] E p) ≡ length (inlets_of I p)
  -- the waiting set is one of different inlets, and what is marked changed is an inlet
  pub unique : (p : ℕ) → Live P p → source_of S p ≡ pack → Differ (get [] W p)
  pub within : (p i : ℕ) → Live P p → source_of S p ≡ pack → has i (get [] W p) ≡ true → i < length (inlets_of I p)
  pub known : (p i : ℕ) → Live P p → source_of S p ≡ pack → has i (get [] C p) ≡ true → i < length (inlets_of I p)
  pub waits : (p i x : ℕ) → Live P p → source_of S p ≡ pack → At (inlets_of I p) i x → has i (get [] W p) ≡ is_waits (get waiting (get [] E p) i)
  pub seen : (p i x : ℕ) → Live P p → source_of S p ≡ pack → At (inlets_of I p) i x
      → (has i (get [] C p) ≡ true) ⊎ (get waiting (get [] E p) i ≡ shows_at O Q x) ⊎ ((port_of O x).changed ≡ true)

-- Reads: one of each segment, owned by the source that waits for it.

abbrev pub read_at : List Read → ℕ → Read
read_at R r = get (record { leaf = 0; owner = none; delivered = true }) R r

pub record Reads (j : Job) (P : List Pipeline) (S : List Source) (R : List Read) : Type 0 where
  pub leaf : (r : ℕ) → r < length R → (is_leaf j (read_at R r).leaf ≡ true) × (first_leaf j (read_at R r).leaf ≡ (read_at R r).leaf)
  pub once : (r q : ℕ) → r < length R → q < length R → (read_at R r).leaf ≡ (read_at R q).leaf → r ≡ q
  -- the owner of a read is a source that waits for it
  pub owned : (r p : ℕ) → r < length R → (read_at R r).owner ≡ some p
      → ((read_at R r).delivered ≡ false) × Live P p × (pend (source_of S p) ≡ true) × (first_leaf j (node_at_place p) ≡ (read_at R r).leaf)
  -- a source that waits has a read in flight
  pub pended : (p : ℕ) → Live P p → pend (source_of S p) ≡ true → (r : ℕ) × (r < length R) × ((read_at R r).delivered ≡ false) × ((read_at R r).owner ≡ some p)
  -- a source that has not asked: its segment has no read
  pub unasked : (p e r : ℕ) (b : Bool) → Live P p → source_of S p ≡ segment false b e → r < length R → (read_at R r).leaf ≢ first_leaf j (node_at_place p)
  -- an asked source that has bytes or has emitted: its read was delivered
  pub came : (p e : ℕ) (b : Bool) → Live P p → source_of S p ≡ segment true b e → pend (source_of S p) ≡ false
      → (r : ℕ) × (r < length R) × ((read_at R r).delivered ≡ true) × ((read_at R r).leaf ≡ first_leaf j (node_at_place p))
  pub fresh : (p e : ℕ) (b : Bool) → Live P p → source_of S p ≡ segment false b e → (b ≡ false) × (e ≡ 0)

-- one live source of a segment, and none while it can still be claimed for the first time
abbrev pub Claimable : Job → ℕ → List Bool → ℕ → Type 0
Claimable j next unb l = (get false unb (first_leaf j l) ≡ true) ⊎ ((is_shared j l ≡ false) × ((t : ℕ) × (next ≤ t) × (t < length j.splits) × (overlaps j l t ≡ true)))

pub record Once (j : Job) (next : ℕ) (unb : List Bool) (P : List Pipeline) (S : List Source) (R : List Read) : Type 0 where
  pub single : (p q : ℕ) → Live P p → Live P q → is_source (source_of S p) ≡ true → is_source (source_of S q) ≡ true → segment_of j p ≡ segment_of j q → p ≡ q
  pub unread : (l r : ℕ) → is_leaf j l ≡ true → Claimable j next unb l → r < length R → (read_at R r).leaf ≢ first_leaf j l
  pub unsourced : (l p : ℕ) → is_leaf j l ≡ true → Claimable j next unb l → Live P p → is_source (source_of S p) ≡ true → segment_of j p ≢ (node_of j l).segment

-- Rows held name delivered segments.

abbrev pub Came : Job → List Read → ℕ → Type 0
Came j R g = (r : ℕ) × (r < length R) × ((read_at R r).delivered ≡ true) × ((node_of j (read_at R r).leaf).segment ≡ g)

abbrev pub AllCame : Job → List Read → List Cell → Type 0
AllCame j R [] = Unit {0}
AllCame j R (c ∷ cs) = Came j R c.segment × AllCame j R cs

abbrev pub Brought : Job → List Read → List Batch → Type 0
Brought j R [] = Unit {0}
Brought j R (b ∷ bs) = AllCame j R b.cells × Brought j R bs

-- every batch has a row
abbrev pub Solid : List Batch → Type 0
Solid [] = Unit {0}
Solid (b ∷ bs) = (0 < b.rows) × Solid bs

pub record Delivered (j : Job) (P : List Pipeline) (G : List Stage) (Q : List (List Batch)) (R : List Read) (outs : List Output) : Type 0 where
  pub queues : (x : ℕ) → Brought j R (queue_of Q x)
  pub outputs : Brought j R (map (λ (o : Output). o.batch) outs)
  pub stages : (p : ℕ) → Live P p → (stage_of G p).continuing ≡ true → Came j R (segment_of j p)
  pub solid : (x : ℕ) → Solid (queue_of Q x)
  pub solid_outs : Solid (map (λ (o : Output). o.batch) outs)

-- Numbers of pipelines: as many were made as are freed or in use.

abbrev pub lives : List Pipeline → ℕ
lives [] = 0
lives (x ∷ xs) = bit x.live + lives xs

pub record Numbers (P : List Pipeline) (freed : List ℕ) (made : ℕ) : Type 0 where
  pub size : length P ≡ places
  pub balance : made ≡ length freed + lives P
  pub few : made ≤ places
