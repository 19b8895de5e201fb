-- Each table written at one place: what keeps `Fits`.
use Rattle.std.specs.Prelude.{◌≡◌, refl, ◌≢◌, ◌⊎◌, true, false, List, [], ℕ, ◌<◌, length}
use Rattle.std.proofs.Common.{◌∙◌, arith}
use Rattle.std.proofs.Math.Option.{Option}
use Rattle.rules.specs.Table.{get, put}
use Rattle.rules.specs.Job.{Job}
use Rattle.rules.specs.Plan.{node_of}
use Rattle.rules.specs.InletSet.{InletSet}
use Rattle.rules.specs.Port.{Batch, Seen}
use Rattle.rules.specs.Operators.{Source}
use Rattle.rules.specs.Machine.{Machine, Pipeline, Stage, Reader, nobody, slot, pipe, Port, Read, node_at_place, places, port_places, no_pipe, no_source, no_stage, no_port, pipe_at, source_at, inlets_at, set_pipe, set_source, set_stage, set_touched, set_changed, set_waits, set_seen, set_port, set_queue, with_ready, with_freed, with_reads, with_news, with_dirty}
use Rattle.laws.specs.Table.{by_eq, clash, same, other, put_length}
use Rattle.order.specs.Inv.{Live, There, reader_of}
use Rattle.order.specs.RangeParts.{SetFits, SourceFits, StageFits, StateFits, ReaderFits, PortFits, PortsFit, QueueFits, ReadsFit, Short, Fits}
use Rattle.order.specs.Views.{reader_same, reader_other}

sized : {A : Type 0} (d : A) (l : List A) (i n : ℕ) (v : A) → length l ≡ n → i < n → length (put d l i v) ≡ n
sized d l i n v e h = put_length d l i v (omega arith) ∙ e

-- a live pipeline has its place
pub bound : (m : Machine) (p : ℕ) → Fits m → Live m.pipes p → p < places
bound m p f l = (f.pipes p l).bound

-- Pipelines

-- a reader named stays one, if the living live on
reader_lives : (j : Job) (P P' : List Pipeline) (I : List (List ℕ)) (x : ℕ) (r : Reader) → ((q i : ℕ) → r ≡ pipe q i → Live P q → Live P' q) → ReaderFits j P I x r
    → ReaderFits j P' I x r
reader_lives j P P' I x nobody h f = f
reader_lives j P P' I x slot h f = f
reader_lives j P P' I x (pipe q i) h f = (f.0, h q i refl f.1, f.2)

ports_lives : (j : Job) (A : List (Option ℕ)) (P P' : List Pipeline) (I : List (List ℕ)) (O : List Port)
    → ((x q i : ℕ) → There O x → reader_of O x ≡ pipe q i → Live P q → Live P' q) → ((q : ℕ) → Live P' q → Live P q) → PortsFit j A P I O → PortsFit j A P' I O
ports_lives j A P P' I O h k f = record {
  ports = λ x t.
      let r = f.ports x t in
      record { bound = r.bound; place = r.place; share = r.share; reader = reader_lives j P P' I x (reader_of O x) (λ q i e. h x q i t e) r.reader };
  vacant = f.vacant;
}

-- a live entry in place of a live one
pub lives_on : (P : List Pipeline) (p q : ℕ) (v : Pipeline) → v.live ≡ true → Live P q → Live (put no_pipe P p v) q
lives_on P p q v e l = by_eq q p (λ d. rw (d, same) e) (λ n. rw other l)

pub lived : (P : List Pipeline) (p q : ℕ) (v : Pipeline) → Live P p → Live (put no_pipe P p v) q → Live P q
lived P p q v l h = by_eq q p (λ d. rw d l) (λ n. rw other at h)

-- another state, or flag
pub set_pipe_lem : (m : Machine) (p : ℕ) (v : Pipeline) → Fits m → Live m.pipes p → v.live ≡ true → v.number ≡ (pipe_at m p).number → StateFits p (length (inlets_at m p)) v.state
    → Fits (set_pipe p v m)
set_pipe_lem m p v f l e n s = record {
  job = f.job;
  still = f.still;
  sizes = (sized no_pipe m.pipes p places v f.sizes.0 (bound m p f l), f.sizes.1, f.sizes.2, f.sizes.3, f.sizes.4, f.sizes.5, f.sizes.6, f.sizes.7, f.sizes.8);
  pipes = λ q h. by_eq q p (λ d. rw (d, same) (let r = f.pipes p l in record { bound = r.bound; place = r.place; number = rw n r.number; source = r.source; stage = r.stage; state = s; changed = r.changed; touched = r.touched })) (λ d. rw other (f.pipes q (rw other at h)));
  ports = ports_lives m.job m.active m.pipes (put no_pipe m.pipes p v) m.inlets m.ports (λ x q i t d. lives_on m.pipes p q v e) (λ q. lived m.pipes p q v l) f.ports;
  queues = f.queues;
  ready = f.ready;
  freed = f.freed;
  reads = f.reads;
  news = f.news;
  dirty = f.dirty;
}

-- the entry of a pipeline that no port names any more
pub set_dead : (m : Machine) (p : ℕ) (v : Pipeline) → Fits m → Live m.pipes p → v.live ≡ false → ((x i : ℕ) → There m.ports x → reader_of m.ports x ≢ pipe p i) → Fits (set_pipe p v m)
set_dead m p v f l e s = record {
  job = f.job;
  still = f.still;
  sizes = (sized no_pipe m.pipes p places v f.sizes.0 (bound m p f l), f.sizes.1, f.sizes.2, f.sizes.3, f.sizes.4, f.sizes.5, f.sizes.6, f.sizes.7, f.sizes.8);
  pipes = λ q h. by_eq q p (λ d. clash (cc (dead q d h))) (λ d. rw other (f.pipes q (rw other at h)));
  ports = ports_lives m.job m.active m.pipes (put no_pipe m.pipes p v) m.inlets m.ports (λ x q i t d k. by_eq q p (λ c. absurd (s x i t (rw c at d))) (λ c. rw other k)) (λ q. lived m.pipes p q v l) f.ports;
  queues = f.queues;
  ready = f.ready;
  freed = f.freed;
  reads = f.reads;
  news = f.news;
  dirty = f.dirty;
}
  where
    dead : (q : ℕ) → q ≡ p → Live (put no_pipe m.pipes p v) q → v.live ≡ true
    dead q d h = rw (d, same) at h

-- another source
pub set_source_lem : (m : Machine) (p : ℕ) (v : Source) → Fits m → Live m.pipes p → SourceFits m.job m.active p (node_of m.job (node_at_place p)).kind v (inlets_at m p) (get [] m.waits p) (get [] m.seen p) → Fits (set_source p v m)
set_source_lem m p v f l s = record {
  job = f.job;
  still = f.still;
  sizes = (f.sizes.0, sized no_source m.sources p places v f.sizes.1 (bound m p f l), f.sizes.2, f.sizes.3, f.sizes.4, f.sizes.5, f.sizes.6, f.sizes.7, f.sizes.8);
  pipes = λ q h. by_eq q p (λ d. rw (d, same) (let r = f.pipes p l in record { bound = r.bound; place = r.place; number = r.number; source = s; stage = r.stage; state = r.state; changed = r.changed; touched = r.touched })) (λ d. rw other (f.pipes q h));
  ports = f.ports;
  queues = f.queues;
  ready = f.ready;
  freed = f.freed;
  reads = f.reads;
  news = f.news;
  dirty = f.dirty;
}

-- another stage
pub set_stage_lem : (m : Machine) (p : ℕ) (v : Stage) → Fits m → Live m.pipes p → StageFits m.job m.active p v (inlets_at m p) → Fits (set_stage p v m)
set_stage_lem m p v f l s = record {
  job = f.job;
  still = f.still;
  sizes = (f.sizes.0, f.sizes.1, sized no_stage m.stages p places v f.sizes.2 (bound m p f l), f.sizes.3, f.sizes.4, f.sizes.5, f.sizes.6, f.sizes.7, f.sizes.8);
  pipes = λ q h. by_eq q p (λ d. rw (d, same) (let r = f.pipes p l in record { bound = r.bound; place = r.place; number = r.number; source = r.source; stage = s; state = r.state; changed = r.changed; touched = r.touched })) (λ d. rw other (f.pipes q h));
  ports = f.ports;
  queues = f.queues;
  ready = f.ready;
  freed = f.freed;
  reads = f.reads;
  news = f.news;
  dirty = f.dirty;
}

-- other inlets touched
pub set_touched_lem : (m : Machine) (p : ℕ) (v : InletSet) → Fits m → Live m.pipes p → SetFits (length (inlets_at m p)) v → Fits (set_touched p v m)
set_touched_lem m p v f l s = record {
  job = f.job;
  still = f.still;
  sizes = (f.sizes.0, f.sizes.1, f.sizes.2, sized [] m.touched p places v f.sizes.3 (bound m p f l), f.sizes.4, f.sizes.5, f.sizes.6, f.sizes.7, f.sizes.8);
  pipes = λ q h. by_eq q p (λ d. rw (d, same) (let r = f.pipes p l in record { bound = r.bound; place = r.place; number = r.number; source = r.source; stage = r.stage; state = r.state; changed = r.changed; touched = s })) (λ d. rw other (f.pipes q h));
  ports = f.ports;
  queues = f.queues;
  ready = f.ready;
  freed = f.freed;
  reads = f.reads;
  news = f.news;
  dirty = f.dirty;
}

-- other inlets changed
pub set_changed_lem : (m : Machine) (p : ℕ) (v : InletSet) → Fits m → Live m.pipes p → SetFits (length (inlets_at m p)) v → Fits (set_changed p v m)
set_changed_lem m p v f l s = record {
  job = f.job;
  still = f.still;
  sizes = (f.sizes.0, f.sizes.1, f.sizes.2, f.sizes.3, sized [] m.changed p places v f.sizes.4 (bound m p f l), f.sizes.5, f.sizes.6, f.sizes.7, f.sizes.8);
  pipes = λ q h. by_eq q p (λ d. rw (d, same) (let r = f.pipes p l in record { bound = r.bound; place = r.place; number = r.number; source = r.source; stage = r.stage; state = r.state; changed = s; touched = r.touched })) (λ d. rw other (f.pipes q h));
  ports = f.ports;
  queues = f.queues;
  ready = f.ready;
  freed = f.freed;
  reads = f.reads;
  news = f.news;
  dirty = f.dirty;
}

-- what a pack notes of its inlets
pub set_noted : (m : Machine) (p : ℕ) (w : InletSet) (es : List Seen) → Fits m → Live m.pipes p
    → SourceFits m.job m.active p (node_of m.job (node_at_place p)).kind (source_at m p) (inlets_at m p) w es → Fits (set_seen p es (set_waits p w m))
set_noted m p w es f l s = record {
  job = f.job;
  still = f.still;
  sizes = (f.sizes.0, f.sizes.1, f.sizes.2, f.sizes.3, f.sizes.4, sized [] m.waits p places w f.sizes.5 (bound m p f l), sized [] m.seen p places es f.sizes.6 (bound m p f l), f.sizes.7, f.sizes.8);
  pipes = λ q h. by_eq q p (λ d. rw d (simp same (let r = f.pipes p l in record { bound = r.bound; place = r.place; number = r.number; source = s; stage = r.stage; state = r.state; changed = r.changed; touched = r.touched }))) (λ d. simp other (f.pipes q h));
  ports = f.ports;
  queues = f.queues;
  ready = f.ready;
  freed = f.freed;
  reads = f.reads;
  news = f.news;
  dirty = f.dirty;
}

-- Ports and queues

-- a port whose reader, if it is in use, is in range
pub set_port_lem : (m : Machine) (x : ℕ) (v : Port) → Fits m → x < port_places → (v.there ≡ true → PortFits m.job m.active m.pipes m.inlets x v.reader)
    → (v.there ≡ true) ⊎ (v.reader ≡ nobody) → Fits (set_port x v m)
set_port_lem m x v f b r o = record {
  job = f.job;
  still = f.still;
  sizes = (f.sizes.0, f.sizes.1, f.sizes.2, f.sizes.3, f.sizes.4, f.sizes.5, f.sizes.6, sized no_port m.ports x port_places v f.sizes.7 b, f.sizes.8);
  pipes = f.pipes;
  ports = record {
    ports = λ y h. by_eq y x (λ d. rw (d, reader_same m.ports x v) (r (rw (d, same) at h))) (λ d. rw (reader_other m.ports x y v d) (f.ports.ports y (rw other at h)));
    vacant = λ y. by_eq y x (λ d. rw (d, same, reader_same m.ports x v) o) (λ d. rw (other, reader_other m.ports x y v d) (f.ports.vacant y));
  };
  queues = f.queues;
  ready = f.ready;
  freed = f.freed;
  reads = f.reads;
  news = f.news;
  dirty = f.dirty;
}

-- a queue in range
pub set_queue_lem : (m : Machine) (x : ℕ) (v : List Batch) → Fits m → x < port_places → QueueFits m.job x v → Fits (set_queue x v m)
set_queue_lem m x v f b r = record {
  job = f.job;
  still = f.still;
  sizes = (f.sizes.0, f.sizes.1, f.sizes.2, f.sizes.3, f.sizes.4, f.sizes.5, f.sizes.6, f.sizes.7, sized [] m.queues x port_places v f.sizes.8 b);
  pipes = f.pipes;
  ports = f.ports;
  queues = λ y. by_eq y x (λ d. rw (d, same) r) (λ d. rw other (f.queues y));
  ready = f.ready;
  freed = f.freed;
  reads = f.reads;
  news = f.news;
  dirty = f.dirty;
}

-- Lists

-- another ready stack
pub with_ready_lem : (m : Machine) (v : List ℕ) → Fits m → Short places places v → Fits (with_ready v m)
with_ready_lem m v f s = record {
  job = f.job;
  still = f.still;
  sizes = f.sizes;
  pipes = f.pipes;
  ports = f.ports;
  queues = f.queues;
  ready = s;
  freed = f.freed;
  reads = f.reads;
  news = f.news;
  dirty = f.dirty;
}

-- other freed numbers
pub with_freed_lem : (m : Machine) (v : List ℕ) → Fits m → Short places m.made v → Fits (with_freed v m)
with_freed_lem m v f s = record {
  job = f.job;
  still = f.still;
  sizes = f.sizes;
  pipes = f.pipes;
  ports = f.ports;
  queues = f.queues;
  ready = f.ready;
  freed = s;
  reads = f.reads;
  news = f.news;
  dirty = f.dirty;
}

-- other reads, and new ones
pub with_reads_lem : (m : Machine) (v : List Read) (n : List ℕ) → Fits m → ReadsFit m.job v → Short 24 (length v) n → Fits (with_news n (with_reads v m))
with_reads_lem m v n f r s = record {
  job = f.job;
  still = f.still;
  sizes = f.sizes;
  pipes = f.pipes;
  ports = f.ports;
  queues = f.queues;
  ready = f.ready;
  freed = f.freed;
  reads = r;
  news = s;
  dirty = f.dirty;
}

-- other dirty slots
pub with_dirty_lem : (m : Machine) (v : List ℕ) → Fits m → Short 3 m.job.slots v → Fits (with_dirty v m)
with_dirty_lem m v f s = record {
  job = f.job;
  still = f.still;
  sizes = f.sizes;
  pipes = f.pipes;
  ports = f.ports;
  queues = f.queues;
  ready = f.ready;
  freed = f.freed;
  reads = f.reads;
  news = f.news;
  dirty = s;
}
