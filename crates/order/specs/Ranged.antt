-- Ranges: what every action keeps from any state, hand-made ones included. Check 12 asks it of a state, besides references that answer.
use Rattle.std.specs.Prelude.{◌≡◌, ◌⊎◌, true, false, [], ◌∷◌, ℕ, ◌<◌, ◌≤◌, length}
use Rattle.std.proofs.Math.Option.{some}
use Rattle.rules.specs.Table.{get}
use Rattle.rules.specs.Job.{Job}
use Rattle.rules.specs.Plan.{node_of, root_of, is_leaf, first_leaf}
use Rattle.rules.specs.Port.{Batch}
use Rattle.rules.specs.Machine.{Machine, Reader, nobody, slot, pipe, Read, Output, node_at_place, slot_at_place, share_port, slot_places, places, port_places}
use Rattle.rules.specs.Check.{source_ok, stage_ok, state_ok, set_ok, batch_ok}
use Rattle.laws.specs.JobOk.{JobOk}
use Rattle.laws.specs.Rows.{All}
use Rattle.order.specs.Inv.{Live, There, pipe_of, state_of, source_of, stage_of, inlets_of, reader_of, queue_of, split_in, At, whole}

-- tables of their full size
pub record Sizes (m : Machine) : Type 0 where
  pub pipes : length m.pipes ≡ places
  pub sources : length m.sources ≡ places
  pub stages : length m.stages ≡ places
  pub inlets : length m.inlets ≡ places
  pub touched : length m.touched ≡ places
  pub changed : length m.changed ≡ places
  pub waits : length m.waits ≡ places
  pub seen : length m.seen ≡ places
  pub ports : length m.ports ≡ port_places
  pub queues : length m.queues ≡ port_places
  pub active : length m.active ≡ 3
  pub finished : length m.finished ≡ 16
  pub unbuilt : length m.unbuilt ≡ 24

-- a node of the job, in an active slot or, for a shared source, a leaf
abbrev pub PlaceRange : Machine → ℕ → Type 0
PlaceRange m p =
    (node_at_place p < length m.job.nodes) × (p < slot_places → (s : ℕ) × (split_in m.active (slot_at_place p) ≡ some s)) × (slot_places ≤ p → is_leaf m.job (node_at_place p) ≡ true)

pub record PipeRange (m : Machine) (p : ℕ) : Type 0 where
  pub bound : p < places
  pub place : PlaceRange m p
  pub number : (pipe_of m.pipes p).number < m.made
  pub source : source_ok m p (node_of m.job (node_at_place p)).kind (source_of m.sources p) ≡ true
  pub stage : stage_ok m p (stage_of m.stages p) ≡ true
  pub state : state_ok p (length (inlets_of m.inlets p)) (state_of m.pipes p) ≡ true
  pub changed : set_ok (length (inlets_of m.inlets p)) (get [] m.changed p) ≡ true
  pub touched : set_ok (length (inlets_of m.inlets p)) (get [] m.touched p) ≡ true

-- a port that names a reader is one of its inlets
abbrev pub ReaderRange : Machine → ℕ → Reader → Type 0
ReaderRange m x nobody = Unit {0}
ReaderRange m x slot = (x < slot_places) × (node_at_place x ≡ root_of m.job)
ReaderRange m x (pipe p i) = (p < slot_places) × Live m.pipes p × At (inlets_of m.inlets p) i x

pub record PortRange (m : Machine) (x : ℕ) : Type 0 where
  pub bound : x < port_places
  pub place : x < slot_places → PlaceRange m x
  pub share : slot_places ≤ x → (l : ℕ) × (t : ℕ) × (x ≡ share_port l t) × (t < length m.job.splits) × (is_leaf m.job l ≡ true)
  pub reader : ReaderRange m x (reader_of m.ports x)

-- what is queued: at most 8 batches of the node's width, or a whole segment
pub record QueueRange (m : Machine) (x : ℕ) : Type 0 where
  pub bounded : x < slot_places → (length (queue_of m.queues x) ≤ 8)
      × All (λ (b : Batch). batch_ok m.job (node_of m.job (node_at_place x)).width b ≡ true) (queue_of m.queues x)
  pub share : (l t : ℕ) → t < 16 → x ≡ share_port l t → (queue_of m.queues x ≡ []) ⊎ ((queue_of m.queues x ≡ whole m.job l ∷ []) × (1 ≤ (node_of m.job l).rows))

abbrev pub IsFirst : Job → ℕ → Type 0
IsFirst j g = (is_leaf j g ≡ true) × (first_leaf j g ≡ g)

pub record ListRange (m : Machine) : Type 0 where
  pub is_next : m.next ≤ length m.job.splits
  pub made : m.made ≤ places
  pub freed_size : length m.freed ≤ places
  pub ready_size : length m.ready ≤ places
  pub reads_size : length m.reads ≤ 24
  pub news_size : length m.news ≤ 24
  pub dirty_size : length m.dirty ≤ 3
  pub outputs_size : length m.outputs ≤ 8
  pub active : (k s : ℕ) → split_in m.active k ≡ some s → (k < m.job.slots) × (s < length m.job.splits)
  pub freed : All (λ n. n < m.made) m.freed
  pub ready : All (λ p. p < places) m.ready
  pub reads : All (λ (r : Read). IsFirst m.job r.leaf) m.reads
  pub owners : All (λ (r : Read). (p : ℕ) → r.owner ≡ some p → p < places) m.reads
  pub news : All (λ r. r < length m.reads) m.news
  pub dirty : All (λ k. k < m.job.slots) m.dirty
  pub outputs : All (λ (o : Output). (o.split < length m.job.splits)
      × (batch_ok m.job (node_of m.job (root_of m.job)).width o.batch ≡ true)) m.outputs
  pub unbuilt : (g : ℕ) → get false m.unbuilt g ≡ true → IsFirst m.job g

pub record Ranged (m : Machine) : Type 0 where
  pub job : JobOk m.job
  pub sizes : Sizes m
  pub lists : ListRange m
  pub pipes : (p : ℕ) → Live m.pipes p → PipeRange m p
  pub ports : (x : ℕ) → There m.ports x → PortRange m x
  pub queues : (x : ℕ) → QueueRange m x
  -- a port that is not in use names nobody
  pub vacant : (x : ℕ) → There m.ports x ⊎ (reader_of m.ports x ≡ nobody)
