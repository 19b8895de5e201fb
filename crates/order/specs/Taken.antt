-- A running pipeline takes from one of its inlets.
use Rattle.std.specs.Prelude.{◌≡◌, refl, ◌≢◌, Bool, true, List, [], ◌∷◌, ◌++◌, ℕ, ◌<◌, ◌≤◌}
use Rattle.std.proofs.Common.{inl, inr, eq-eqb}
use Rattle.std.proofs.Math.Option.{some}
use Rattle.rules.specs.Table.{get, put, has}
use Rattle.rules.specs.Job.{Job}
use Rattle.rules.specs.Plan.{Row, root_of}
use Rattle.rules.specs.InletSet.{InletSet, insert, insert_all}
use Rattle.rules.specs.Port.{Batch, batch_rows}
use Rattle.rules.specs.Operators.{Source, pack}
use Rattle.rules.specs.Machine.{Machine, Pipeline, Stage, Port, Read, Output, slot, pipe, place, share_port, slot_places, source_at, stage_at, inlets_at, queue_at, set_queue}
use Rattle.rules.specs.Drive.{touch}
use Rattle.laws.specs.Table.{same, other, upd, upd_other, by_bool, by_eq, clash}
use Rattle.order.specs.Inv.{There, At, flat, still, share_rows, whole, split_in, source_of, inlets_of, reader_of, shut, queue_of, Ended, Idle, Full, Waits, SharePort, Past, Delivered, Brought, Solid}
use Rattle.order.specs.State.{Busy, Touched}
use Rattle.order.specs.Take.{will_of, apart_others, take_flow}
use Rattle.order.specs.Sets.{has_insert}

-- Touched inlets

has_more : (k : ℕ) (is : List ℕ) (s : InletSet) → has k s ≡ true → has k (insert_all is s) ≡ true
unfolding insert_all
has_more k [] s h = h
has_more k (i ∷ is) s h = has_more k is (insert i s) (has_insert k i s h)

-- and puts one in
has_new : (i : ℕ) (s : InletSet) → has i (insert_all (i ∷ []) s) ≡ true
unfolding insert_all has
has_new i s = by_bool (has i s) (λ e. rw e e) (λ e. rw (e, eq-eqb i i refl))

-- an inlet stays touched
pub touched_more : (me : ℕ) (is : List ℕ) (m : Machine) (y : ℕ) → Touched m me y → Touched (touch me is m) me y
touched_more me is m y t = (t.0, rw same (has_more t.0 is (get [] m.touched me) t.1), t.2)

-- an inlet that is looked at is touched
pub touched_new : (me i x : ℕ) (m : Machine) → At (inlets_of m.inlets me) i x → Touched (touch me (i ∷ []) m) me x
touched_new me i x m a = (i, rw same (has_new i (get [] m.touched me)), a)

-- the frame of `Waits`
pub waits_map : {who freed freed' : ℕ → Type 0} {P : List Pipeline} {S S' : List Source} {I : List (List ℕ)} {O : List Port} {Q Q' : List (List Batch)}
    → ((p : ℕ) → who p → source_of S' p ≡ source_of S p) → ((y : ℕ) → Idle O Q y → Idle O Q' y) → ((y : ℕ) → Full freed Q y → Full freed' Q' y)
    → Waits who freed P S I O Q → Waits who freed' P S' I O Q'
waits_map s i f w = record {
  on_io = λ p l n. rw (s p n) (w.on_io p l n);
  on_inlet = λ p k l e. let r = w.on_inlet p k l e in (r.0, r.1, i r.0 r.2);
  on_outlet = λ p l e. let r = w.on_outlet p l e in (r.0, f p r.1);
}

-- the frame of a shared port
pub share_frame : {j : Job} {busy : ℕ → Type 0} {unb : List Bool} {P : List Pipeline} {S S' : List Source} {O : List Port} {Q Q' : List (List Batch)} (y : ℕ)
    → ((p : ℕ) → slot_places ≤ p → source_of S' p ≡ source_of S p) → queue_of Q' y ≡ queue_of Q y
    → SharePort j busy unb P S O Q y → SharePort j busy unb P S' O Q' y
share_frame y s q v = record {
  leaf = v.leaf;
  split = v.split;
  is = v.is;
  below = v.below;
  is_leaf = v.is_leaf;
  pair = v.pair;
  shared = v.shared;
  built = v.built;
  holds = rw q v.holds;
  opens = λ o. let r = v.opens o in (r.0, r.1, rw (s r.0 r.1.1, q) r.2);
  shuts = v.shuts;
  full = λ c n. rw q (v.full c n);
  unslotted = v.unslotted;
}

-- Taking the front batch of a queue

module _ (O : List Port) (Q : List (List Batch)) (x : ℕ) (b : Batch) (bs : List Batch) (full : queue_of Q x ≡ b ∷ bs) where
  -- what has ended or is idle still is, and a full port is, or was touched
  ended_take : (y : ℕ) → Ended O Q y → Ended O (put [] Q x bs) y
  ended_take y e = by_eq y x (λ q. clash (cc e.1)) (λ n. (e.0, rw other e.1))

  idle_take : (y : ℕ) → Idle O Q y → Idle O (put [] Q x bs) y
  idle_take y (inl e) = by_eq y x (λ q. clash (cc e.0)) (λ n. inl (rw other e.0, e.1))
  idle_take y (inr f) = inr f

  full_take : (freed freed' : ℕ → Type 0) → ((y : ℕ) → freed y → freed' y) → freed' x → (y : ℕ) → Full freed Q y → Full freed' (put [] Q x bs) y
  full_take freed freed' h n y (inl e) = by_eq y x (λ q. inr (rw q n)) (λ k. inl (rw other e))
  full_take freed freed' h n y (inr f) = inr (h y f)

  -- ended inlets stay ended
  past_take : {P : List Pipeline} {S : List Source} {G : List Stage} {I : List (List ℕ)} → Past P S G I O Q → Past P S G I O (put [] Q x bs)
  past_take v = record {
    before = λ p c i y l e a h. ended_take y (v.before p c i y l e a h);
    within = v.within;
    all = λ p i y l e a. ended_take y (v.all p i y l e a);
    emit = v.emit;
    more = v.more;
    stage_count = v.stage_count;
    spent = v.spent;
  }

  -- the queues that are left hold what came, and no empty batch
  delivered_take : {j : Job} {P : List Pipeline} {G : List Stage} {R : List Read} {outs : List Output}
      → Delivered j P G Q R outs → Delivered j P G (put [] Q x bs) R outs
  delivered_take {j} {P} {G} {R} v =
      let c : Brought j R (b ∷ bs) = rw full at (v.queues x) in
      let s : Solid (b ∷ bs) = rw full at (v.solid x) in
      record {
        queues = λ y. by_eq y x (λ e. rw (e, same) c.1) (λ n. rw other (v.queues y));
        outputs = v.outputs;
        stages = v.stages;
        solid = λ y. by_eq y x (λ e. rw (e, same) s.1) (λ n. rw other (v.solid y));
        solid_outs = v.solid_outs;
      }

-- me takes the front batch of its inlet i, the port x: v is left to come out of it, and the hand is taken
pub take_busy : (out : ℕ → List Row) (told me : ℕ) (m : Machine) (i x : ℕ) (b : Batch) (bs : List Batch) (v hand : List Row)
    → (u : Busy me [] out told m) → source_at m me ≢ pack → At (inlets_at m me) i x → queue_at m x ≡ b ∷ bs
    → (x < slot_places → v ≡ flat bs ++ still (shut m.ports x) (u.inv.W x))
    → ((l t : ℕ) → t < 16 → share_port l t ≡ x → v ≡ share_rows (batch_rows (whole m.job l)) (shut m.ports x) bs)
    → (slot_places ≤ x → SharePort m.job (λ p. p ≡ me) m.unbuilt m.pipes m.sources m.ports (put [] m.queues x bs) x)
    → (will_of u.inv.F m me (stage_at m me)
    ≡ hand ++ will_of (upd u.inv.F x v) m me (stage_at m me))
    → Busy me hand out told (set_queue x bs (touch me (i ∷ []) m))
take_busy out told me m i x b bs v hand u np at q bounded shared port mine =
    let I = u.inv in
    let r : reader_of m.ports x ≡ pipe me i = (I.ports.inlets me i x u.running.live at).1 in
    let t : There m.ports x = (I.ports.inlets me i x u.running.live at).0 in
    let root : (k s : ℕ) → split_in m.active k ≡ some s → place k (root_of m.job) ≢ x = λ k s e z.
    let a : reader_of m.ports (place k (root_of m.job)) ≡ slot = (I.ports.roots k s e).1 in clash (cc) in
    record {
      inv = record {
        F = upd I.F x v;
        W = I.W;
        job = I.job;
        slots = I.slots;
        pipes = I.pipes;
        ports = record {
          alive = I.ports.alive;
          opens = I.ports.opens;
          inlets = I.ports.inlets;
          readers = I.ports.readers;
          slots = I.ports.slots;
          roots = I.ports.roots;
          absent = λ y e. by_eq y x (λ z. clash (cc)) (λ n. rw other (I.ports.absent y e));
          blank = I.ports.blank;
        };
        shares = record {
          ports = λ y h z. by_eq y x (λ e. rw e (port (rw e at h))) (λ n. share_frame y (λ p g. refl) (rw other) (I.shares.ports y h z));
          waits = I.shares.waits;
          unbuilt = I.shares.unbuilt;
        };
        flow = take_flow I.ports me i x u.running.live at v hand bs I.flow bounded shared mine np;
        past = past_take m.ports m.queues x b bs q I.past;
        splits = record {
          active = λ k s e. rw (upd_other I.F x (place k (root_of m.job)) v (root k s e)) (I.splits.active k s e);
          over = I.splits.over;
          later = I.splits.later;
        };
        queued = I.queued;
        waits = waits_map (λ p n. refl) (idle_take m.ports m.queues x b bs q)
            (full_take m.ports m.queues x b bs q (Touched m me) (Touched (touch me (i ∷ []) m) me) (touched_more me (i ∷ []) m) (touched_new me i x m at))
            I.waits;
        dirt = record { clean = λ k s e h. idle_take m.ports m.queues x b bs q (place k (root_of m.job)) (I.dirt.clean k s e h); active = I.dirt.active; differ = I.dirt.differ };
        quiet = record { marks = I.quiet.marks; touches = λ p l n. rw other (I.quiet.touches p l n); present = I.quiet.present };
        packs = record {
          size = I.packs.size;
          unique = I.packs.unique;
          within = I.packs.within;
          known = I.packs.known;
          waits = I.packs.waits;
          seen = λ p k y l e a.
              let n : p ≢ me = λ z. np (rw z at e) in
              let d : y ≢ x = apart_others I.ports me i x u.running.live at p l n k y a in
              rw other (I.packs.seen p k y l e a);
        };
        reads = I.reads;
        once = I.once;
        delivered = delivered_take m.ports m.queues x b bs q I.delivered;
        numbers = I.numbers;
        tells = I.tells;
        sound = I.sound;
      };
      running = record { live = u.running.live; state = u.running.state; unqueued = u.running.unqueued };
      calm = u.calm;
      is_open = u.is_open;
    }
