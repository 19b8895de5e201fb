-- Ports that come up empty, or get a reader: they are closed, marked and filled as before.
use Rattle.std.specs.Prelude.{◌≡◌, List, ℕ}
use Rattle.std.proofs.Common.{◌∙◌}
use Rattle.std.proofs.Math.Option.{Option}
use Rattle.rules.specs.Job.{Job}
use Rattle.rules.specs.Plan.{Row, root_of}
use Rattle.rules.specs.InletSet.{InletSet}
use Rattle.rules.specs.Port.{Batch, Seen}
use Rattle.rules.specs.Operators.{Source}
use Rattle.rules.specs.Machine.{Pipeline, Stage, Port, Read, Output, place, share_port}
use Rattle.order.specs.Inv.{shut, port_of, queue_of, Flow, Past, Ended, Waits, Idle, Dirt, Packs, Delivered}

module _ (O O' : List Port) (Q Q' : List (List Batch)) (closed : (x : ℕ) → shut O' x ≡ shut O x) (marked : (x : ℕ) → (port_of O' x).changed ≡ (port_of O x).changed)
    (held : (x : ℕ) → queue_of Q' x ≡ queue_of Q x) where
  pub flow_alike : (j : Job) (A : List (Option ℕ)) (P : List Pipeline) (S : List Source) (G : List Stage) (I : List (List ℕ)) (me : ℕ) (hand : List Row) (F W : ℕ → List Row)
      → Flow j A P S G I O Q me hand F W → Flow j A P S G I O' Q' me hand F W
  flow_alike j A P S G I me hand F W w = record {
    port = λ x b. rw (closed x, held x) (w.port x b);
    share = λ l t h. rw (closed (share_port l t), held (share_port l t)) (w.share l t h);
    pipes = w.pipes;
    mine = w.mine;
    ends = w.ends;
    even = w.even;
  }

  ended_alike : (x : ℕ) → Ended O Q x → Ended O' Q' x
  ended_alike x e = (closed x ∙ e.0, held x ∙ e.1)

  idle_alike : (x : ℕ) → Idle O Q x → Idle O' Q' x
  idle_alike x e = rw (closed x, marked x, held x) e

  pub past_alike : (P : List Pipeline) (S : List Source) (G : List Stage) (I : List (List ℕ)) → Past P S G I O Q → Past P S G I O' Q'
  past_alike P S G I w = record {
    before = λ p c i x l e a h. ended_alike x (w.before p c i x l e a h);
    within = w.within;
    all = λ p i x l e a. ended_alike x (w.all p i x l e a);
    emit = w.emit;
    more = w.more;
    stage_count = w.stage_count;
    spent = w.spent;
  }

  pub waits_alike : (who freed : ℕ → Type 0) (P : List Pipeline) (S : List Source) (I : List (List ℕ)) → Waits who freed P S I O Q → Waits who freed P S I O' Q'
  waits_alike who freed P S I w = record {
    on_io = w.on_io;
    on_inlet = λ p i l e. let y = w.on_inlet p i l e in (y.0, y.1, idle_alike y.0 y.2);
    on_outlet = λ p l e. let y = w.on_outlet p l e in (y.0, rw (held p) y.1);
  }

  pub dirt_alike : (j : Job) (A : List (Option ℕ)) (dirty : List ℕ) → Dirt j A O Q dirty → Dirt j A O' Q' dirty
  dirt_alike j A dirty w = record { clean = λ k s a d. idle_alike (place k (root_of j)) (w.clean k s a d); active = w.active; differ = w.differ }

  pub packs_alike : (P : List Pipeline) (S : List Source) (I : List (List ℕ)) (C W : List InletSet) (E : List (List Seen)) → Packs P S I O Q C W E → Packs P S I O' Q' C W E
  packs_alike P S I C W E w = record {
    size = w.size;
    unique = w.unique;
    within = w.within;
    known = w.known;
    waits = w.waits;
    seen = λ p i x l e a. rw (closed x, marked x, held x) (w.seen p i x l e a);
  }

  pub delivered_alike : (j : Job) (P : List Pipeline) (G : List Stage) (R : List Read) (outs : List Output) → Delivered j P G Q R outs → Delivered j P G Q' R outs
  delivered_alike j P G R outs w = record {
    queues = λ x. rw (held x) (w.queues x);
    outputs = w.outputs;
    stages = w.stages;
    solid = λ x. rw (held x) (w.solid x);
    solid_outs = w.solid_outs;
  }
