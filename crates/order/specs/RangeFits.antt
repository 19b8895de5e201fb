-- `Fits` is `Ranged`.
use Rattle.std.specs.Prelude.{◌≡◌, true, [], ℕ, length}
use Rattle.rules.specs.Table.{get}
use Rattle.rules.specs.Plan.{node_of}
use Rattle.rules.specs.Port.{Batch}
use Rattle.rules.specs.Machine.{Machine, Reader, nobody, slot, pipe, node_at_place}
use Rattle.rules.specs.Check.{batch_ok}
use Rattle.laws.specs.KidPlaces.{All-map}
use Rattle.order.specs.Inv.{pipe_of, state_of, source_of, stage_of, inlets_of, reader_of, queue_of}
use Rattle.order.specs.Ranged.{PipeRange, ReaderRange, PortRange, QueueRange, Ranged}
use Rattle.order.specs.RangeParts.{PipeFits, ReaderFits, PortFits, QueueFits, BatchFits, Fits}
use Rattle.order.specs.RangeTests.{set_fits, fits_set, batch_fits, fits_batch, source_fits, fits_source, stage_fits, fits_stage, state_fits, fits_state}

-- Pipelines

pipe_fits : (m : Machine) (p : ℕ) → PipeRange m p
    → PipeFits m.job m.active m.made p (pipe_of m.pipes p) (source_of m.sources p) (stage_of m.stages p) (inlets_of m.inlets p) (get [] m.touched p) (get [] m.changed p) (get [] m.waits p) (get [] m.seen p)
pipe_fits m p r = record {
  bound = r.bound;
  place = r.place;
  number = r.number;
  source = source_fits m p (node_of m.job (node_at_place p)).kind (source_of m.sources p) r.source;
  stage = stage_fits m p (stage_of m.stages p) r.stage;
  state = state_fits p (length (inlets_of m.inlets p)) (state_of m.pipes p) r.state;
  changed = set_fits (length (inlets_of m.inlets p)) (get [] m.changed p) r.changed;
  touched = set_fits (length (inlets_of m.inlets p)) (get [] m.touched p) r.touched;
}

fits_pipe : (m : Machine) (p : ℕ)
    → PipeFits m.job m.active m.made p (pipe_of m.pipes p) (source_of m.sources p) (stage_of m.stages p) (inlets_of m.inlets p) (get [] m.touched p) (get [] m.changed p) (get [] m.waits p) (get [] m.seen p)
    → PipeRange m p
fits_pipe m p r = record {
  bound = r.bound;
  place = r.place;
  number = r.number;
  source = fits_source m p (node_of m.job (node_at_place p)).kind (source_of m.sources p) r.source;
  stage = fits_stage m p (stage_of m.stages p) r.stage;
  state = fits_state p (length (inlets_of m.inlets p)) (state_of m.pipes p) r.state;
  changed = fits_set (length (inlets_of m.inlets p)) (get [] m.changed p) r.changed;
  touched = fits_set (length (inlets_of m.inlets p)) (get [] m.touched p) r.touched;
}

-- Ports

reader_fits : (m : Machine) (x : ℕ) (r : Reader) → ReaderRange m x r → ReaderFits m.job m.pipes m.inlets x r
reader_fits m x nobody h = h
reader_fits m x slot h = h
reader_fits m x (pipe p i) h = h

fits_reader : (m : Machine) (x : ℕ) (r : Reader) → ReaderFits m.job m.pipes m.inlets x r → ReaderRange m x r
fits_reader m x nobody h = h
fits_reader m x slot h = h
fits_reader m x (pipe p i) h = h

port_fits : (m : Machine) (x : ℕ) → PortRange m x → PortFits m.job m.active m.pipes m.inlets x (reader_of m.ports x)
port_fits m x r = record { bound = r.bound; place = r.place; share = r.share; reader = reader_fits m x (reader_of m.ports x) r.reader }

fits_port : (m : Machine) (x : ℕ) → PortFits m.job m.active m.pipes m.inlets x (reader_of m.ports x) → PortRange m x
fits_port m x r = record { bound = r.bound; place = r.place; share = r.share; reader = fits_reader m x (reader_of m.ports x) r.reader }

queue_fits : (m : Machine) (x : ℕ) → QueueRange m x → QueueFits m.job x (queue_of m.queues x)
queue_fits m x r =
    let w = (node_of m.job (node_at_place x)).width in
    record {
      bounded = λ h. (
        (r.bounded h).0,
        All-map (λ (b : Batch). batch_ok m.job w b ≡ true) (BatchFits m.job w) (batch_fits m.job w)
            (queue_of m.queues x) (r.bounded h).1,
      );
      share = r.share;
    }

fits_queue : (m : Machine) (x : ℕ) → QueueFits m.job x (queue_of m.queues x) → QueueRange m x
fits_queue m x r =
    let w = (node_of m.job (node_at_place x)).width in
    record {
      bounded = λ h. (
        (r.bounded h).0,
        All-map (BatchFits m.job w) (λ (b : Batch). batch_ok m.job w b ≡ true) (fits_batch m.job w)
            (queue_of m.queues x) (r.bounded h).1,
      );
      share = r.share;
    }

-- The whole

pub fits : (m : Machine) → Ranged m → Fits m
fits m r =
    let z = r.sizes in
    let l = r.lists in
    record {
      job = r.job;
      still = record {
        inlets = z.inlets;
        active_size = z.active;
        finished = z.finished;
        unbuilt_size = z.unbuilt;
        is_next = l.is_next;
        made = l.made;
        outputs_size = l.outputs_size;
        active = l.active;
        outputs = l.outputs;
        unbuilt = l.unbuilt;
      };
      sizes = (z.pipes, z.sources, z.stages, z.touched, z.changed, z.waits, z.seen, z.ports, z.queues);
      pipes = λ p h. pipe_fits m p (r.pipes p h);
      ports = record { ports = λ x h. port_fits m x (r.ports x h); vacant = r.vacant };
      queues = λ x. queue_fits m x (r.queues x);
      ready = (l.ready_size, l.ready);
      freed = (l.freed_size, l.freed);
      reads = (l.reads_size, l.reads, l.owners);
      news = (l.news_size, l.news);
      dirty = (l.dirty_size, l.dirty);
    }

pub ranged : (m : Machine) → Fits m → Ranged m
ranged m r =
    let z = r.sizes in
    let s = r.still in
    record {
      job = r.job;
      sizes = record {
        pipes = z.0;
        sources = z.1;
        stages = z.2;
        inlets = s.inlets;
        touched = z.3;
        changed = z.4;
        waits = z.5;
        seen = z.6;
        ports = z.7;
        queues = z.8;
        active = s.active_size;
        finished = s.finished;
        unbuilt = s.unbuilt_size;
      };
      lists = record {
        is_next = s.is_next;
        made = s.made;
        freed_size = r.freed.0;
        ready_size = r.ready.0;
        reads_size = r.reads.0;
        news_size = r.news.0;
        dirty_size = r.dirty.0;
        outputs_size = s.outputs_size;
        active = s.active;
        freed = r.freed.1;
        ready = r.ready.1;
        reads = r.reads.1;
        owners = r.reads.2;
        news = r.news.1;
        dirty = r.dirty.1;
        outputs = s.outputs;
        unbuilt = s.unbuilt;
      };
      pipes = λ p h. fits_pipe m p (r.pipes p h);
      ports = λ x h. fits_port m x (r.ports.ports x h);
      queues = λ x. fits_queue m x (r.queues x);
      vacant = r.ports.vacant;
    }
