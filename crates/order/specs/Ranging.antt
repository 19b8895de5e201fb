-- `Ranged` with two gaps, for states inside a lowering: a pipeline that is laid may have no number yet (`lax`), and a port may name an inlet
-- of a pipeline that is laid next (`to x p i`). And how its parts are carried from one state to another.
use Rattle.std.specs.Prelude.{◌≡◌, refl, ◌⊎◌, Bool, true, List, [], ◌∷◌, ℕ, ◌<◌, ◌≤◌, length}
use Rattle.std.proofs.Common.{ap, ◌∙◌, inl, inr, arith}
use Rattle.rules.specs.Table.{get}
use Rattle.rules.specs.Job.{Job, Kind}
use Rattle.rules.specs.Plan.{node_of, root_of, is_leaf, names}
use Rattle.rules.specs.InletSet.{InletSet}
use Rattle.rules.specs.Port.{Batch, Seen}
use Rattle.rules.specs.Operators.{Source, segment, concat, pack}
use Rattle.rules.specs.Machine.{Machine, Pipeline, Stage, Port, Reader, nobody, slot, pipe, node_at_place, slot_at_place, share_port, slot_places, places, port_places, pieces_at, inlets_at, leaf_of_port}
use Rattle.rules.specs.Check.{source_ok, stage_ok, state_ok, set_ok, fed_below, fed_shared}
use Rattle.laws.specs.JobOk.{JobOk}
use Rattle.order.specs.Inv.{Live, There, pipe_of, state_of, source_of, stage_of, inlets_of, reader_of, queue_of, split_in, At}
use Rattle.order.specs.Ranged.{Sizes, PlaceRange, PipeRange, ReaderRange, PortRange, QueueRange, ListRange, Ranged}
use Rattle.order.specs.Lowers.{none_to}

-- a pipeline but for its number
pub record PipeBody (m : Machine) (p : ℕ) : Type 0 where
  pub bound : p < places
  pub place : PlaceRange m p
  pub source : source_ok m p (node_of m.job (node_at_place p)).kind (source_of m.sources p) ≡ true
  pub stage : stage_ok m p (stage_of m.stages p) ≡ true
  pub state : state_ok p (length (inlets_of m.inlets p)) (state_of m.pipes p) ≡ true
  pub changed : set_ok (length (inlets_of m.inlets p)) (get [] m.changed p) ≡ true
  pub touched : set_ok (length (inlets_of m.inlets p)) (get [] m.touched p) ≡ true

-- a port but for its reader
pub record PortBody (m : Machine) (x : ℕ) : Type 0 where
  pub bound : x < port_places
  pub place : x < slot_places → PlaceRange m x
  pub share : slot_places ≤ x → (l : ℕ) × (t : ℕ) × (x ≡ share_port l t) × (t < length m.job.splits) × (is_leaf m.job l ≡ true)

-- inlet i of the pipeline at p reads port x
abbrev pub ReadBy : Machine → ℕ → ℕ → ℕ → Type 0
ReadBy m x p i = (p < slot_places) × Live m.pipes p × At (inlets_of m.inlets p) i x

pub record Ranging (lax : Type 0) (to : ℕ → ℕ → ℕ → Type 0) (m : Machine) : Type 0 where
  pub job : JobOk m.job
  pub sizes : Sizes m
  pub lists : ListRange m
  pub pipes : (p : ℕ) → Live m.pipes p → PipeBody m p
  pub numbers : (p : ℕ) → Live m.pipes p → ((pipe_of m.pipes p).number < m.made) ⊎ (lax × ((pipe_of m.pipes p).number ≡ 0))
  pub ports : (x : ℕ) → There m.ports x → PortBody m x
  pub readers : (x p i : ℕ) → There m.ports x → reader_of m.ports x ≡ pipe p i → ReadBy m x p i ⊎ to x p i
  pub slots : (x : ℕ) → There m.ports x → reader_of m.ports x ≡ slot → (x < slot_places) × (node_at_place x ≡ root_of m.job)
  pub queues : (x : ℕ) → QueueRange m x
  pub vacant : (x : ℕ) → There m.ports x ⊎ (reader_of m.ports x ≡ nobody)

-- Without gaps it is `Ranged`

pub of_ranged : (m : Machine) → Ranged m → Ranging ⊥ none_to m
of_ranged m r = record {
  job = r.job;
  sizes = r.sizes;
  lists = r.lists;
  pipes = λ p l. let c : PipeRange m p = r.pipes p l in
      record { bound = c.bound; place = c.place; source = c.source; stage = c.stage; state = c.state; changed = c.changed; touched = c.touched };
  numbers = λ p l. inl (r.pipes p l).number;
  ports = λ x t. let c : PortRange m x = r.ports x t in record { bound = c.bound; place = c.place; share = c.share };
  readers = λ x p i t e. inl (rw e at (r.ports x t).reader);
  slots = λ x t e. rw e at (r.ports x t).reader;
  queues = r.queues;
  vacant = r.vacant;
}

pub to_ranged : (m : Machine) → Ranging ⊥ none_to m → Ranged m
to_ranged m r = record {
  job = r.job;
  sizes = r.sizes;
  lists = r.lists;
  pipes = λ p l. let c : PipeBody m p = r.pipes p l in record {
    bound = c.bound;
    place = c.place;
    number = numbered p (r.numbers p l);
    source = c.source;
    stage = c.stage;
    state = c.state;
    changed = c.changed;
    touched = c.touched;
  };
  ports = λ x t. let c : PortBody m x = r.ports x t in
      record { bound = c.bound; place = c.place; share = c.share; reader = reads x (reader_of m.ports x) (λ p i e. r.readers x p i t e) (λ e. r.slots x t e) };
  queues = r.queues;
  vacant = r.vacant;
}
  where
    numbered : (p : ℕ) → ((pipe_of m.pipes p).number < m.made) ⊎ (⊥ × ((pipe_of m.pipes p).number ≡ 0)) → (pipe_of m.pipes p).number < m.made
    numbered p (inl h) = h
    numbered p (inr h) = absurd h.0

    reads : (x : ℕ) (a : Reader) → ((p i : ℕ) → a ≡ pipe p i → ReadBy m x p i ⊎ ⊥) → (a ≡ slot → (x < slot_places) × (node_at_place x ≡ root_of m.job)) → ReaderRange m x a
    reads x nobody f g = tt
    reads x slot f g = g refl
    reads x (pipe p i) f g = read (f p i refl)
      where
        read : ReadBy m x p i ⊎ ⊥ → ReadBy m x p i
        read (inl h) = h
        read (inr h) = absurd h

-- gaps made wider
pub widen : (lax lax' : Type 0) (to to' : ℕ → ℕ → ℕ → Type 0) (m : Machine) → (lax → lax') → ((x p i : ℕ) → to x p i → to' x p i) → Ranging lax to m → Ranging lax' to' m
widen lax lax' to to' m f g r = record {
  job = r.job;
  sizes = r.sizes;
  lists = r.lists;
  pipes = r.pipes;
  numbers = λ p l. number p (r.numbers p l);
  ports = r.ports;
  readers = λ x p i t e. reads x p i (r.readers x p i t e);
  slots = r.slots;
  queues = r.queues;
  vacant = r.vacant;
}
  where
    number : (p : ℕ) → ((pipe_of m.pipes p).number < m.made) ⊎ (lax × ((pipe_of m.pipes p).number ≡ 0)) → ((pipe_of m.pipes p).number < m.made) ⊎ (lax' × ((pipe_of m.pipes p).number ≡ 0))
    number p (inl h) = inl h
    number p (inr h) = inr (f h.0, h.1)

    reads : (x p i : ℕ) → ReadBy m x p i ⊎ to x p i → ReadBy m x p i ⊎ to' x p i
    reads x p i (inl h) = inl h
    reads x p i (inr h) = inr (g x p i h)

-- once a number was made, no pipeline lacks one
pub all_numbered : (lax : Type 0) (to : ℕ → ℕ → ℕ → Type 0) (m : Machine) → 1 ≤ m.made → Ranging lax to m → Ranging ⊥ to m
all_numbered lax to m h r = record {
  job = r.job;
  sizes = r.sizes;
  lists = r.lists;
  pipes = r.pipes;
  numbers = λ p l. inl (number p (r.numbers p l));
  ports = r.ports;
  readers = r.readers;
  slots = r.slots;
  queues = r.queues;
  vacant = r.vacant;
}
  where
    number : (p : ℕ) → ((pipe_of m.pipes p).number < m.made) ⊎ (lax × ((pipe_of m.pipes p).number ≡ 0)) → (pipe_of m.pipes p).number < m.made
    number p (inl n) = n
    number p (inr n) = omega (arith, n.1)

-- Parts carried over

-- what the range of a pipeline's source and stage reads besides them, alike in two states
pub record Near (m m' : Machine) (p : ℕ) : Type 0 where
  pub job : m'.job ≡ m.job
  pub active : split_in m'.active (slot_at_place p) ≡ split_in m.active (slot_at_place p)
  pub inlets : inlets_of m'.inlets p ≡ inlets_of m.inlets p
  pub seen : get [] m'.seen p ≡ get [] m.seen p
  pub waits : get [] m'.waits p ≡ get [] m.waits p

-- all that a pipeline's range reads but its state
pub record Alike (m m' : Machine) (p : ℕ) : Type 0 where
  pub near : Near m m' p
  pub source : source_of m'.sources p ≡ source_of m.sources p
  pub stage : stage_of m'.stages p ≡ stage_of m.stages p
  pub changed : get [] m'.changed p ≡ get [] m.changed p
  pub touched : get [] m'.touched p ≡ get [] m.touched p

-- what is fed is told by the job alone
pub below_alike : (m m' : Machine) (p : ℕ) (xs : List ℕ) → m'.job ≡ m.job → fed_below m' p xs ≡ fed_below m p xs
unfolding fed_below
below_alike m m' p [] e = refl
below_alike m m' p (x ∷ xs) e = rw (below_alike m m' p xs e, ap (λ (j : Job). (node_of j (node_at_place x)).parent) e)

pub shared_alike : (m m' : Machine) (p : ℕ) (xs : List ℕ) → m'.job ≡ m.job → fed_shared m' p xs ≡ fed_shared m p xs
unfolding fed_shared
shared_alike m m' p [] e = refl
shared_alike m m' p (x ∷ []) e = rw (ap (λ (j : Job). names j (node_at_place p) (leaf_of_port x)) e)
shared_alike m m' p (x ∷ y ∷ xs) e = refl

module _ (m m' : Machine) (p : ℕ) (a : Near m m' p) where
  runs_near : pieces_at m' p ≡ pieces_at m p
  runs_near = rw (a.job, a.active)

  pub source_near : (k : Kind) (s : Source) → source_ok m' p k s ≡ source_ok m p k s
  source_near k (segment b c e) = rw (a.inlets, runs_near)
  source_near k (concat i) = rw (a.inlets, below_alike m m' p (inlets_at m p) a.job, shared_alike m m' p (inlets_at m p) a.job)
  source_near k pack = rw (a.inlets, below_alike m m' p (inlets_at m p) a.job, a.seen, a.waits)

  pub stage_near : (g : Stage) → stage_ok m' p g ≡ stage_ok m p g
  stage_near g = rw (a.inlets, shared_alike m m' p (inlets_at m p) a.job, runs_near)

  place_near : PlaceRange m p → PlaceRange m' p
  place_near r = rw (a.job, a.active) r

  -- a pipeline with another source and state in range
  pub body_near : source_ok m p (node_of m.job (node_at_place p)).kind (source_of m'.sources p) ≡ true → stage_of m'.stages p ≡ stage_of m.stages p
      → state_ok p (length (inlets_of m.inlets p)) (state_of m'.pipes p) ≡ true → get [] m'.changed p ≡ get [] m.changed p → get [] m'.touched p ≡ get [] m.touched p
      → PipeBody m p → PipeBody m' p
  body_near s g h c t r = record {
    bound = r.bound;
    place = place_near r.place;
    source = rw (ap (λ (j : Job). (node_of j (node_at_place p)).kind) a.job) (source_near (node_of m.job (node_at_place p)).kind (source_of m'.sources p) ∙ s);
    stage = rw g (stage_near (stage_of m.stages p) ∙ r.stage);
    state = rw a.inlets h;
    changed = rw (a.inlets, c) r.changed;
    touched = rw (a.inlets, t) r.touched;
  }

-- a pipeline with another state in range
pub body_alike : (m m' : Machine) (p : ℕ) → Alike m m' p → state_ok p (length (inlets_of m.inlets p)) (state_of m'.pipes p) ≡ true → PipeBody m p → PipeBody m' p
body_alike m m' p a h r = body_near m m' p a.near (rw a.source r.source) a.stage h a.changed a.touched r

-- a port alike in two states
pub port_alike : (m m' : Machine) (x : ℕ) → m'.job ≡ m.job → (x < slot_places → split_in m'.active (slot_at_place x) ≡ split_in m.active (slot_at_place x)) → PortBody m x → PortBody m' x
port_alike m m' x e a r = record {
  bound = r.bound;
  place = λ h. rw (e, a h) (r.place h);
  share = λ h. rw e (r.share h);
}

-- a queue alike in two states, and one that is empty
pub queue_alike : (m m' : Machine) (x : ℕ) → m'.job ≡ m.job → queue_of m'.queues x ≡ queue_of m.queues x → QueueRange m x → QueueRange m' x
queue_alike m m' x e q r = record { bounded = λ h. rw (e, q) (r.bounded h); share = λ l t h i. rw (e, q) (r.share l t h i) }

pub queue_empty : (m : Machine) (x : ℕ) → queue_of m.queues x ≡ [] → QueueRange m x
queue_empty m x e = record { bounded = λ h. rw e (omega arith, tt); share = λ l t h i. inl e }

-- tables of the same sizes
pub sizes_alike : (m m' : Machine) → Sizes m
    → length m'.pipes ≡ length m.pipes → length m'.sources ≡ length m.sources → length m'.stages ≡ length m.stages
    → length m'.inlets ≡ length m.inlets → length m'.touched ≡ length m.touched → length m'.changed ≡ length m.changed
    → length m'.waits ≡ length m.waits → length m'.seen ≡ length m.seen → length m'.ports ≡ length m.ports
    → length m'.queues ≡ length m.queues → length m'.active ≡ length m.active → length m'.finished ≡ length m.finished
    → length m'.unbuilt ≡ length m.unbuilt → Sizes m'
sizes_alike m m' z a b c d e f g h i j k l n = record {
  pipes = a ∙ z.pipes;
  sources = b ∙ z.sources;
  stages = c ∙ z.stages;
  inlets = d ∙ z.inlets;
  touched = e ∙ z.touched;
  changed = f ∙ z.changed;
  waits = g ∙ z.waits;
  seen = h ∙ z.seen;
  ports = i ∙ z.ports;
  queues = j ∙ z.queues;
  active = k ∙ z.active;
  finished = l ∙ z.finished;
  unbuilt = n ∙ z.unbuilt;
}

-- lists of a state with other tables
pub lists_alike : (m : Machine) (P : List Pipeline) (S : List Source) (G : List Stage) (I : List (List ℕ)) (T C W : List InletSet) (E : List (List Seen)) (O : List Port) (Q : List (List Batch)) (fin : List Bool) (f : Bool)
    → ListRange m
    → ListRange (record { job = m.job; pipes = P; sources = S; stages = G; inlets = I; touched = T; changed = C; waits = W; seen = E; ports = O; queues = Q; ready = m.ready; freed = m.freed; made = m.made; reads = m.reads; news = m.news; dirty = m.dirty; next = m.next; active = m.active; finished = fin; unbuilt = m.unbuilt; outputs = m.outputs; fault = f })
lists_alike m P S G I T C W E O Q fin f r = record {
  is_next = r.is_next;
  made = r.made;
  freed_size = r.freed_size;
  ready_size = r.ready_size;
  reads_size = r.reads_size;
  news_size = r.news_size;
  dirty_size = r.dirty_size;
  outputs_size = r.outputs_size;
  active = r.active;
  freed = r.freed;
  ready = r.ready;
  reads = r.reads;
  owners = r.owners;
  news = r.news;
  dirty = r.dirty;
  outputs = r.outputs;
  unbuilt = r.unbuilt;
}
