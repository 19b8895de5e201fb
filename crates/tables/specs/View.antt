-- The layout: which bytes of a lent state hold what, and the machine that any bytes are read as.
use Rattle.std.specs.Prelude.{ℕ, suc, ◌+◌, ◌*◌, ◌/◌, ◌≤◌, Bool, false, ◌&&◌, List, [], ◌∷◌, ◌++◌, leb, length, take, drop, if◌then◌else◌}
use Rattle.rules.specs.Table.{get}
use Rattle.rules.specs.Job.{Job}
use Rattle.rules.specs.Plan.{node_of}
use Rattle.rules.specs.Port.{Batch, no_batch, capacity}
use Rattle.rules.specs.Operators.{run_batch}
use Rattle.rules.specs.Machine.{Machine, Read, Output}
use Rattle.queue.specs.declared.capacity.Queue.{Queue}
use Rattle.queue.specs.Queue.{held}
use Rattle.layout.specs.Cut.{cut}
use Rattle.layout.specs.Records.{table}
use Rattle.layout.specs.Numbers.{byte, flag, option, stack}
use Rattle.tables.specs.Decode.{pipeline, source, stage, port, read_record, active_split, flag_record, inlets, seen_of, batch, output, node, split}

-- the bytes that the machine is read from
abbrev pub machine_len : ℕ
machine_len = 39327

-- bytes enough for a machine
abbrev pub Sized : List ℕ → Type 0
Sized s = machine_len ≤ length s

-- the published length: behind the machine stand the numbers of its nodes in job order
abbrev pub state_len : ℕ
state_len = 39351

-- a lent state of sufficient length
abbrev pub Published : List ℕ → Type 0
Published s = state_len ≤ length s

-- the number of slots, nodes and splits, then the nodes and the splits; a count past its table makes a job without nodes
unfoldable pub job_from : List ℕ → List ℕ → List ℕ → Job
job_from h ns ss = record {
  slots = byte h 0;
  nodes = if leb (byte h 1) 24 && leb (byte h 2) 16 then take (byte h 1) (table node 19 24 ns) else [];
  splits = take (byte h 2) (table split 137 16 ss);
}

-- how many, then the records
unfoldable pub reads_from : List ℕ → List ℕ → List Read
reads_from c rs =
    if leb (byte c 0) 24 then take (byte c 0) (table read_record 4 24 rs)
    else record { leaf = 255; owner = option 0 0; delivered = false } ∷ []

-- the two bytes of a ring: where its oldest entry stands and how many there are; how many places it has is known
abbrev pub ring_of : ℕ → List ℕ → Queue
ring_of n r = record { head = byte r 0; count = byte r 1; capacity = n }

-- the two bytes, then the places
unfoldable pub news_from : List ℕ → List ℕ
news_from r = held 255 (λ k. byte r (2 + k)) (ring_of 24 r)

unfoldable pub outputs_from : List ℕ → List ℕ → List Output
outputs_from h os = held (record { split = 255; batch = no_batch }) (get (output []) (table output 38 capacity os)) (ring_of capacity h)

-- every entry with its number
unfoldable pub indexed : {A B : Type 0} → (ℕ → A → B) → ℕ → List A → List B
indexed f i [] = []
indexed f i (x ∷ xs) = f i x ∷ indexed f (suc i) xs

-- the batches of bounded port x, which has so many places of the table
unfoldable pub queue_from : List Batch → ℕ → List ℕ → List Batch
queue_from bs x h = held no_batch (λ k. get no_batch bs (capacity * x + k)) (ring_of capacity h)

-- a shared port has its whole segment or nothing: port x of these is of leaf x / 16
unfoldable pub share_from : Job → ℕ → Bool → List Batch
share_from j x full =
    if full then run_batch (node_of j (x / 16)).segment (record { start = 0; size = (node_of j (x / 16)).rows }) ∷ [] else []

abbrev pub self : List ℕ → List ℕ
self r = r

unfoldable pub queues_from : Job → List ℕ → List ℕ → List ℕ → List (List Batch)
queues_from j rings full bs = indexed (queue_from (table batch 37 576 bs)) 0 (table self 2 72 rings) ++ indexed (share_from j) 0 (table flag_record 1 384 full)

unfoldable pub view : List ℕ → Machine
view s = record {
  job = job_from (cut 0 3 s) (cut 679 1135 s) (cut 1135 3327 s);
  made = byte (cut 3 4 s) 0;
  next = byte (cut 4 5 s) 0;
  fault = flag (byte (cut 5 6 s) 0);
  active = table active_split 2 3 (cut 6 12 s);
  finished = table flag_record 1 16 (cut 12 28 s);
  unbuilt = table flag_record 1 24 (cut 28 52 s);
  dirty = stack (cut 52 56 s);
  news = news_from (cut 56 82 s);
  ready = stack (cut 82 179 s);
  freed = stack (cut 179 276 s);
  reads = reads_from (cut 276 277 s) (cut 277 373 s);
  outputs = outputs_from (cut 373 375 s) (cut 375 679 s);
  pipes = table pipeline 5 96 (cut 3327 3807 s);
  sources = table source 4 96 (cut 3807 4191 s);
  stages = table stage 6 96 (cut 4191 4767 s);
  inlets = table inlets 47 96 (cut 4767 9279 s);
  touched = table stack 24 96 (cut 9279 11583 s);
  changed = table stack 24 96 (cut 11583 13887 s);
  waits = table stack 5 96 (cut 13887 14367 s);
  seen = table seen_of 4 96 (cut 14367 14751 s);
  ports = table port 6 456 (cut 14751 17487 s);
  queues = queues_from (job_from (cut 0 3 s) (cut 679 1135 s) (cut 1135 3327 s)) (cut 17487 17631 s) (cut 17631 18015 s) (cut 18015 39327 s);
}

-- the numbers of the nodes
unfoldable pub labels_at : List ℕ → List ℕ
labels_at s = take (length (view s).job.nodes) (drop machine_len s)
