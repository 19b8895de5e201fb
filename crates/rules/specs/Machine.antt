-- The state of a scan: a table for each concern, by place. The pipeline of node n in slot k and its outlet stand at 24 k + n; a shared
-- source at 72 + the leaf that claimed first; a shared port at 72 + 16 l + s, for leaf l and split s.
use Rattle.std.specs.Prelude.{Bool, false, ◌&&◌, ◌||◌, ℕ, ◌+◌, ◌-◌, ◌*◌, ◌/◌, ◌%◌, length, replicate, eqb, leb, ltb, if◌then◌else◌}
use mathlib.Core.List.{List, [], ◌∷◌, map, flat_map}
use Rattle.std.proofs.Math.Option.{Option, none, get_or}
use Rattle.rules.specs.Table.{get, put, filter, up_from}
use Rattle.rules.specs.Job.{Job, max_nodes, max_splits, max_slots}
use Rattle.rules.specs.Plan.{node_of, Piece, pieces_of, kept_pieces, leaves_of, is_shared, first_leaf, is_leaf}
use Rattle.rules.specs.InletSet.{InletSet}
use Rattle.rules.specs.Port.{Batch, Seen, sees}
use Rattle.rules.specs.Operators.{Source, segment, State, runnable}

-- the number of places of split pipelines, of all pipelines, and of all ports
abbrev pub slot_places : ℕ
slot_places = 72

abbrev pub places : ℕ
places = 96

abbrev pub port_places : ℕ
port_places = 456

-- a read for each segment, of which there are fewer than nodes
abbrev pub max_reads : ℕ
max_reads = 24

abbrev pub place : ℕ → ℕ → ℕ
place k n = max_nodes * k + n

-- 72 is three times 24, so that a shared source's node is found alike
abbrev pub node_at_place : ℕ → ℕ
node_at_place p = p % max_nodes

abbrev pub slot_at_place : ℕ → ℕ
slot_at_place p = p / max_nodes

abbrev pub share_port : ℕ → ℕ → ℕ
share_port l s = slot_places + (max_splits * l + s)

-- the leaf and the split of a shared port
abbrev pub leaf_of_port : ℕ → ℕ
leaf_of_port x = (x - slot_places) / max_splits

abbrev pub split_of_port : ℕ → ℕ
split_of_port x = (x - slot_places) % max_splits

abbrev pub is_share_port : ℕ → Bool
is_share_port x = leb slot_places x

-- `State` "kept in the pipeline struct", with whether it stands on the ready stack
pub record Pipeline : Type 0 where
  pub live : Bool
  pub state : State
  pub queued : Bool
  pub number : ℕ

-- the cutting stage (runs cut of the batch it was last given), whether it continues, the stages finished since the source's end,
-- whether the source last said More
pub record Stage : Type 0 where
  pub cut : Option ℕ
  pub continuing : Bool
  pub finishing : Option ℕ
  pub more : Bool

-- who takes a port's batches: nobody (not claimed yet, or gone), the slot, or an inlet of a pipeline
pub data Reader : Type 0 where
  nobody slot : Reader
  pipe : ℕ → ℕ → Reader

-- `changed`: a mark that the writer's run has not passed on yet
pub record Port : Type 0 where
  pub there : Bool
  pub closed : Bool
  pub changed : Bool
  pub reader : Reader

-- a read's segment (by its first leaf), the pipeline that waits for it, whether it was delivered
pub record Read : Type 0 where
  pub leaf : ℕ
  pub owner : Option ℕ
  pub delivered : Bool

pub record Output : Type 0 where
  pub split : ℕ
  pub batch : Batch

pub record Machine : Type 0 where
  pub job : Job
  pub pipes : List Pipeline
  pub sources : List Source
  pub stages : List Stage
  pub inlets : List (List ℕ)  -- the ports that a pipeline reads
  pub touched : List InletSet  -- inlets read in the run in progress
  pub changed : List InletSet  -- inlets changed since the source was last tested
  pub waits : List InletSet  -- a pack's inlets with nothing to take
  pub seen : List (List Seen)  -- what a pack last saw of each inlet
  pub ports : List Port
  pub queues : List (List Batch)  -- the oldest batch first
  pub ready : List ℕ  -- pipelines to run, the newest first
  pub freed : List ℕ  -- pipeline numbers, the newest freed first
  pub made : ℕ  -- pipeline numbers in use or freed
  pub reads : List Read  -- by read number
  pub news : List ℕ  -- reads not told yet, the oldest first
  pub dirty : List ℕ  -- slots, the newest first
  pub next : ℕ  -- the next split
  pub active : List (Option ℕ)  -- by slot: its split
  pub finished : List Bool  -- by split
  pub unbuilt : List Bool  -- by a segment's first leaf: shared, and its source is still to be made
  pub outputs : List Output  -- held, the oldest first
  pub fault : Bool  -- a cause of 14 came up

-- one table changed
abbrev pub with_pipes : List Pipeline → Machine → Machine
with_pipes v m = record { job = m.job; pipes = v; sources = m.sources; stages = m.stages; inlets = m.inlets; touched = m.touched; changed = m.changed; waits = m.waits; seen = m.seen; ports = m.ports; queues = m.queues; ready = m.ready; freed = m.freed; made = m.made; reads = m.reads; news = m.news; dirty = m.dirty; next = m.next; active = m.active; finished = m.finished; unbuilt = m.unbuilt; outputs = m.outputs; fault = m.fault }

abbrev pub with_sources : List Source → Machine → Machine
with_sources v m = record { job = m.job; pipes = m.pipes; sources = v; stages = m.stages; inlets = m.inlets; touched = m.touched; changed = m.changed; waits = m.waits; seen = m.seen; ports = m.ports; queues = m.queues; ready = m.ready; freed = m.freed; made = m.made; reads = m.reads; news = m.news; dirty = m.dirty; next = m.next; active = m.active; finished = m.finished; unbuilt = m.unbuilt; outputs = m.outputs; fault = m.fault }

abbrev pub with_stages : List Stage → Machine → Machine
with_stages v m = record { job = m.job; pipes = m.pipes; sources = m.sources; stages = v; inlets = m.inlets; touched = m.touched; changed = m.changed; waits = m.waits; seen = m.seen; ports = m.ports; queues = m.queues; ready = m.ready; freed = m.freed; made = m.made; reads = m.reads; news = m.news; dirty = m.dirty; next = m.next; active = m.active; finished = m.finished; unbuilt = m.unbuilt; outputs = m.outputs; fault = m.fault }

abbrev pub with_inlets : List (List ℕ) → Machine → Machine
with_inlets v m = record { job = m.job; pipes = m.pipes; sources = m.sources; stages = m.stages; inlets = v; touched = m.touched; changed = m.changed; waits = m.waits; seen = m.seen; ports = m.ports; queues = m.queues; ready = m.ready; freed = m.freed; made = m.made; reads = m.reads; news = m.news; dirty = m.dirty; next = m.next; active = m.active; finished = m.finished; unbuilt = m.unbuilt; outputs = m.outputs; fault = m.fault }

abbrev pub with_touched : List InletSet → Machine → Machine
with_touched v m = record { job = m.job; pipes = m.pipes; sources = m.sources; stages = m.stages; inlets = m.inlets; touched = v; changed = m.changed; waits = m.waits; seen = m.seen; ports = m.ports; queues = m.queues; ready = m.ready; freed = m.freed; made = m.made; reads = m.reads; news = m.news; dirty = m.dirty; next = m.next; active = m.active; finished = m.finished; unbuilt = m.unbuilt; outputs = m.outputs; fault = m.fault }

abbrev pub with_changed : List InletSet → Machine → Machine
with_changed v m = record { job = m.job; pipes = m.pipes; sources = m.sources; stages = m.stages; inlets = m.inlets; touched = m.touched; changed = v; waits = m.waits; seen = m.seen; ports = m.ports; queues = m.queues; ready = m.ready; freed = m.freed; made = m.made; reads = m.reads; news = m.news; dirty = m.dirty; next = m.next; active = m.active; finished = m.finished; unbuilt = m.unbuilt; outputs = m.outputs; fault = m.fault }

abbrev pub with_waits : List InletSet → Machine → Machine
with_waits v m = record { job = m.job; pipes = m.pipes; sources = m.sources; stages = m.stages; inlets = m.inlets; touched = m.touched; changed = m.changed; waits = v; seen = m.seen; ports = m.ports; queues = m.queues; ready = m.ready; freed = m.freed; made = m.made; reads = m.reads; news = m.news; dirty = m.dirty; next = m.next; active = m.active; finished = m.finished; unbuilt = m.unbuilt; outputs = m.outputs; fault = m.fault }

abbrev pub with_seen : List (List Seen) → Machine → Machine
with_seen v m = record { job = m.job; pipes = m.pipes; sources = m.sources; stages = m.stages; inlets = m.inlets; touched = m.touched; changed = m.changed; waits = m.waits; seen = v; ports = m.ports; queues = m.queues; ready = m.ready; freed = m.freed; made = m.made; reads = m.reads; news = m.news; dirty = m.dirty; next = m.next; active = m.active; finished = m.finished; unbuilt = m.unbuilt; outputs = m.outputs; fault = m.fault }

abbrev pub with_ports : List Port → Machine → Machine
with_ports v m = record { job = m.job; pipes = m.pipes; sources = m.sources; stages = m.stages; inlets = m.inlets; touched = m.touched; changed = m.changed; waits = m.waits; seen = m.seen; ports = v; queues = m.queues; ready = m.ready; freed = m.freed; made = m.made; reads = m.reads; news = m.news; dirty = m.dirty; next = m.next; active = m.active; finished = m.finished; unbuilt = m.unbuilt; outputs = m.outputs; fault = m.fault }

abbrev pub with_queues : List (List Batch) → Machine → Machine
with_queues v m = record { job = m.job; pipes = m.pipes; sources = m.sources; stages = m.stages; inlets = m.inlets; touched = m.touched; changed = m.changed; waits = m.waits; seen = m.seen; ports = m.ports; queues = v; ready = m.ready; freed = m.freed; made = m.made; reads = m.reads; news = m.news; dirty = m.dirty; next = m.next; active = m.active; finished = m.finished; unbuilt = m.unbuilt; outputs = m.outputs; fault = m.fault }

abbrev pub with_ready : List ℕ → Machine → Machine
with_ready v m = record { job = m.job; pipes = m.pipes; sources = m.sources; stages = m.stages; inlets = m.inlets; touched = m.touched; changed = m.changed; waits = m.waits; seen = m.seen; ports = m.ports; queues = m.queues; ready = v; freed = m.freed; made = m.made; reads = m.reads; news = m.news; dirty = m.dirty; next = m.next; active = m.active; finished = m.finished; unbuilt = m.unbuilt; outputs = m.outputs; fault = m.fault }

abbrev pub with_freed : List ℕ → Machine → Machine
with_freed v m = record { job = m.job; pipes = m.pipes; sources = m.sources; stages = m.stages; inlets = m.inlets; touched = m.touched; changed = m.changed; waits = m.waits; seen = m.seen; ports = m.ports; queues = m.queues; ready = m.ready; freed = v; made = m.made; reads = m.reads; news = m.news; dirty = m.dirty; next = m.next; active = m.active; finished = m.finished; unbuilt = m.unbuilt; outputs = m.outputs; fault = m.fault }

abbrev pub with_made : ℕ → Machine → Machine
with_made v m = record { job = m.job; pipes = m.pipes; sources = m.sources; stages = m.stages; inlets = m.inlets; touched = m.touched; changed = m.changed; waits = m.waits; seen = m.seen; ports = m.ports; queues = m.queues; ready = m.ready; freed = m.freed; made = v; reads = m.reads; news = m.news; dirty = m.dirty; next = m.next; active = m.active; finished = m.finished; unbuilt = m.unbuilt; outputs = m.outputs; fault = m.fault }

abbrev pub with_reads : List Read → Machine → Machine
with_reads v m = record { job = m.job; pipes = m.pipes; sources = m.sources; stages = m.stages; inlets = m.inlets; touched = m.touched; changed = m.changed; waits = m.waits; seen = m.seen; ports = m.ports; queues = m.queues; ready = m.ready; freed = m.freed; made = m.made; reads = v; news = m.news; dirty = m.dirty; next = m.next; active = m.active; finished = m.finished; unbuilt = m.unbuilt; outputs = m.outputs; fault = m.fault }

abbrev pub with_news : List ℕ → Machine → Machine
with_news v m = record { job = m.job; pipes = m.pipes; sources = m.sources; stages = m.stages; inlets = m.inlets; touched = m.touched; changed = m.changed; waits = m.waits; seen = m.seen; ports = m.ports; queues = m.queues; ready = m.ready; freed = m.freed; made = m.made; reads = m.reads; news = v; dirty = m.dirty; next = m.next; active = m.active; finished = m.finished; unbuilt = m.unbuilt; outputs = m.outputs; fault = m.fault }

abbrev pub with_dirty : List ℕ → Machine → Machine
with_dirty v m = record { job = m.job; pipes = m.pipes; sources = m.sources; stages = m.stages; inlets = m.inlets; touched = m.touched; changed = m.changed; waits = m.waits; seen = m.seen; ports = m.ports; queues = m.queues; ready = m.ready; freed = m.freed; made = m.made; reads = m.reads; news = m.news; dirty = v; next = m.next; active = m.active; finished = m.finished; unbuilt = m.unbuilt; outputs = m.outputs; fault = m.fault }

abbrev pub with_next : ℕ → Machine → Machine
with_next v m = record { job = m.job; pipes = m.pipes; sources = m.sources; stages = m.stages; inlets = m.inlets; touched = m.touched; changed = m.changed; waits = m.waits; seen = m.seen; ports = m.ports; queues = m.queues; ready = m.ready; freed = m.freed; made = m.made; reads = m.reads; news = m.news; dirty = m.dirty; next = v; active = m.active; finished = m.finished; unbuilt = m.unbuilt; outputs = m.outputs; fault = m.fault }

abbrev pub with_active : List (Option ℕ) → Machine → Machine
with_active v m = record { job = m.job; pipes = m.pipes; sources = m.sources; stages = m.stages; inlets = m.inlets; touched = m.touched; changed = m.changed; waits = m.waits; seen = m.seen; ports = m.ports; queues = m.queues; ready = m.ready; freed = m.freed; made = m.made; reads = m.reads; news = m.news; dirty = m.dirty; next = m.next; active = v; finished = m.finished; unbuilt = m.unbuilt; outputs = m.outputs; fault = m.fault }

abbrev pub with_finished : List Bool → Machine → Machine
with_finished v m = record { job = m.job; pipes = m.pipes; sources = m.sources; stages = m.stages; inlets = m.inlets; touched = m.touched; changed = m.changed; waits = m.waits; seen = m.seen; ports = m.ports; queues = m.queues; ready = m.ready; freed = m.freed; made = m.made; reads = m.reads; news = m.news; dirty = m.dirty; next = m.next; active = m.active; finished = v; unbuilt = m.unbuilt; outputs = m.outputs; fault = m.fault }

abbrev pub with_unbuilt : List Bool → Machine → Machine
with_unbuilt v m = record { job = m.job; pipes = m.pipes; sources = m.sources; stages = m.stages; inlets = m.inlets; touched = m.touched; changed = m.changed; waits = m.waits; seen = m.seen; ports = m.ports; queues = m.queues; ready = m.ready; freed = m.freed; made = m.made; reads = m.reads; news = m.news; dirty = m.dirty; next = m.next; active = m.active; finished = m.finished; unbuilt = v; outputs = m.outputs; fault = m.fault }

abbrev pub with_outputs : List Output → Machine → Machine
with_outputs v m = record { job = m.job; pipes = m.pipes; sources = m.sources; stages = m.stages; inlets = m.inlets; touched = m.touched; changed = m.changed; waits = m.waits; seen = m.seen; ports = m.ports; queues = m.queues; ready = m.ready; freed = m.freed; made = m.made; reads = m.reads; news = m.news; dirty = m.dirty; next = m.next; active = m.active; finished = m.finished; unbuilt = m.unbuilt; outputs = v; fault = m.fault }

abbrev pub with_fault : Bool → Machine → Machine
with_fault v m = record { job = m.job; pipes = m.pipes; sources = m.sources; stages = m.stages; inlets = m.inlets; touched = m.touched; changed = m.changed; waits = m.waits; seen = m.seen; ports = m.ports; queues = m.queues; ready = m.ready; freed = m.freed; made = m.made; reads = m.reads; news = m.news; dirty = m.dirty; next = m.next; active = m.active; finished = m.finished; unbuilt = m.unbuilt; outputs = m.outputs; fault = v }

-- Entries. What is all zero is an entry that is not in use.

abbrev pub no_pipe : Pipeline
no_pipe = record { live = false; state = runnable; queued = false; number = 0 }

abbrev pub no_source : Source
no_source = segment false false 0

abbrev pub no_stage : Stage
no_stage = record { cut = none; continuing = false; finishing = none; more = false }

abbrev pub no_port : Port
no_port = record { there = false; closed = false; changed = false; reader = nobody }

abbrev pub no_read : Read
no_read = record { leaf = 0; owner = none; delivered = false }

abbrev pub pipe_at : Machine → ℕ → Pipeline
pipe_at m p = get no_pipe m.pipes p

abbrev pub live : Machine → ℕ → Bool
live m p = (pipe_at m p).live

abbrev pub source_at : Machine → ℕ → Source
source_at m p = get no_source m.sources p

abbrev pub stage_at : Machine → ℕ → Stage
stage_at m p = get no_stage m.stages p

abbrev pub inlets_at : Machine → ℕ → List ℕ
inlets_at m p = get [] m.inlets p

abbrev pub port_at : Machine → ℕ → Port
port_at m x = get no_port m.ports x

abbrev pub queue_at : Machine → ℕ → List Batch
queue_at m x = get [] m.queues x

abbrev pub set_pipe : ℕ → Pipeline → Machine → Machine
set_pipe p v m = with_pipes (put no_pipe m.pipes p v) m

abbrev pub set_source : ℕ → Source → Machine → Machine
set_source p v m = with_sources (put no_source m.sources p v) m

abbrev pub set_stage : ℕ → Stage → Machine → Machine
set_stage p v m = with_stages (put no_stage m.stages p v) m

abbrev pub set_inlets : ℕ → List ℕ → Machine → Machine
set_inlets p v m = with_inlets (put [] m.inlets p v) m

abbrev pub set_touched : ℕ → InletSet → Machine → Machine
set_touched p v m = with_touched (put [] m.touched p v) m

abbrev pub set_changed : ℕ → InletSet → Machine → Machine
set_changed p v m = with_changed (put [] m.changed p v) m

abbrev pub set_waits : ℕ → InletSet → Machine → Machine
set_waits p v m = with_waits (put [] m.waits p v) m

abbrev pub set_seen : ℕ → List Seen → Machine → Machine
set_seen p v m = with_seen (put [] m.seen p v) m

abbrev pub set_port : ℕ → Port → Machine → Machine
set_port x v m = with_ports (put no_port m.ports x v) m

abbrev pub set_queue : ℕ → List Batch → Machine → Machine
set_queue x v m = with_queues (put [] m.queues x v) m

-- a cause of 14 where the test holds
abbrev pub fault_if : Bool → Machine → Machine
fault_if b m = with_fault (m.fault || b) m

-- Looked up

-- the split of a place in a slot
abbrev pub split_at : Machine → ℕ → ℕ
split_at m p = get_or (get none m.active (slot_at_place p)) 0

-- the segment number of a leaf's place
abbrev pub segment_at : Machine → ℕ → ℕ
segment_at m p = (node_of m.job (node_at_place p)).segment

-- the runs that a source emits or a stage cuts; a shared source is "one source of the whole segment"
abbrev pub pieces_at : Machine → ℕ → List Piece
pieces_at m p =
    if ltb p slot_places then kept_pieces m.job (node_at_place p) (split_at m p)
    else pieces_of (node_at_place p) (segment_at m p) (record { start = 0; size = (node_of m.job (node_at_place p)).rows } ∷ [])

-- the ports of a segment, by leaf, then split
abbrev pub share_ports : Job → ℕ → List ℕ
share_ports j g = flat_map (λ l. map (share_port l) (up_from 0 (length j.splits))) (leaves_of j g)

-- where a pipeline's batches go
abbrev pub outlets : Machine → ℕ → List ℕ
outlets m p = if ltb p slot_places then p ∷ [] else filter (λ x. (port_at m x).there) (share_ports m.job (node_at_place p))

-- what inlet i of a pipeline shows
abbrev pub shows : Machine → ℕ → ℕ → Seen
shows m p i = let x = get 0 (inlets_at m p) i in sees (queue_at m x) (port_at m x).closed

-- Opening

-- nothing in use
unfoldable pub blank : Job → Machine
blank j = record {
  job = j;
  pipes = replicate places no_pipe;
  sources = replicate places no_source;
  stages = replicate places no_stage;
  inlets = replicate places [];
  touched = replicate places [];
  changed = replicate places [];
  waits = replicate places [];
  seen = replicate places [];
  ports = replicate port_places no_port;
  queues = replicate port_places [];
  ready = [];
  freed = [];
  made = 0;
  reads = [];
  news = [];
  dirty = [];
  next = 0;
  active = replicate max_slots none;
  finished = replicate max_splits false;
  unbuilt = replicate max_nodes false;
  outputs = [];
  fault = false;
}

-- "state all zero"
abbrev pub zeroed : Machine
zeroed = blank (record { slots = 0; nodes = []; splits = [] })

-- a segment that is shared, by its first leaf
abbrev pub shared_first : Job → ℕ → Bool
shared_first j n = is_leaf j n && eqb (first_leaf j n) n && is_shared j n

-- what opening leaves: the shared segments are known, and nothing is lowered
unfoldable pub start : Job → Machine
start j = with_unbuilt (map (shared_first j) (up_from 0 max_nodes)) (blank j)
