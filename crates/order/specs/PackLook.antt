-- A running pack has looked at its inlets, and perhaps taken of them: the invariant after it.
use Rattle.std.specs.Prelude.{◌≡◌, ◌≢◌, ◌⊎◌, Bool, true, false, List, [], ℕ, ◌<◌, ◌≤◌, length}
use Rattle.std.proofs.Common.{◌∙◌, inl, inr, arith}
use Rattle.rules.specs.Table.{get, has}
use Rattle.rules.specs.Job.{Job}
use Rattle.rules.specs.Plan.{Row}
use Rattle.rules.specs.InletSet.{InletSet}
use Rattle.rules.specs.Port.{Batch, Seen, waiting}
use Rattle.rules.specs.Operators.{Source, pack}
use Rattle.rules.specs.Machine.{Machine, Pipeline, Stage, Port, slot_places, with_queues, with_touched, with_changed, with_waits, with_seen}
use Rattle.laws.specs.Table.{by_bool, by_eq}
use Rattle.order.specs.Inv.{Live, source_of, inlets_of, queue_of, At, Shares, SharePort, Flow, Past, Splits, Packs, Delivered, Idle, Full, shows_at}
use Rattle.order.specs.State.{Busy, Touched}
use Rattle.order.specs.Base.{at_below}
use Rattle.order.specs.Observe.{Noted}
use Rattle.order.specs.PackPlace.{PackPlace, pack_place, other_inlet, not_at}
use Rattle.order.specs.Lists.{has_at}

-- Queues that change

-- a shared port's queue stays
pub shares_requeue : {j : Job} {busy : ℕ → Type 0} {next : ℕ} {unb : List Bool} {P : List Pipeline} {S : List Source} {O : List Port} (Q Q' : List (List Batch))
    → ((x : ℕ) → slot_places ≤ x → queue_of Q' x ≡ queue_of Q x) → Shares j busy next unb P S O Q → Shares j busy next unb P S O Q'
shares_requeue {j} {busy} {next} {unb} {P} {S} {O} Q Q' h v = record {
  ports = λ x b t. let r : SharePort j busy unb P S O Q x = v.ports x b t in record {
    leaf = r.leaf;
    split = r.split;
    is = r.is;
    below = r.below;
    is_leaf = r.is_leaf;
    pair = r.pair;
    shared = r.shared;
    built = r.built;
    holds = rw (h x b) r.holds;
    opens = rw (h x b) r.opens;
    shuts = r.shuts;
    full = rw (h x b) r.full;
    unslotted = r.unslotted;
  };
  waits = v.waits;
  unbuilt = v.unbuilt;
}

-- what was empty stays empty
module _ (Q Q' : List (List Batch)) (h : (x : ℕ) → queue_of Q x ≡ [] → queue_of Q' x ≡ []) where
  pub past_requeue : {P : List Pipeline} {S : List Source} {G : List Stage} {I : List (List ℕ)} {O : List Port} → Past P S G I O Q → Past P S G I O Q'
  past_requeue v = record {
    before = λ p c i x l e a b. let r : _ = v.before p c i x l e a b in (r.0, h x r.1);
    within = v.within;
    all = λ p i x l e a. let r : _ = v.all p i x l e a in (r.0, h x r.1);
    emit = v.emit;
    stage_count = v.stage_count;
    spent = v.spent;
    more = v.more;
  }

  -- an idle port stays idle
  pub idle_requeue : (O : List Port) (x : ℕ) → Idle O Q x → Idle O Q' x
  idle_requeue O x (inl e) = inl (h x e.0, e.1)
  idle_requeue O x (inr e) = inr e

-- What a look leaves

-- tables that a pack `me` has written: its inlets are seen as they are, and a queue that is not as before was touched
pub record Look (me : ℕ) (m : Machine) (Q : List (List Batch)) (T C W : List InletSet) (E : List (List Seen)) : Type 0 where
  pub queue_other : (x : ℕ) → has x (inlets_of m.inlets me) ≡ false → queue_of Q x ≡ queue_of m.queues x
  pub queue_none : (x : ℕ) → queue_of m.queues x ≡ [] → queue_of Q x ≡ []
  pub queue_read : (i x : ℕ) → At (inlets_of m.inlets me) i x → (queue_of Q x ≡ queue_of m.queues x) ⊎ (has i (get [] T me) ≡ true)
  pub touched_other : (p : ℕ) → p ≢ me → get [] T p ≡ get [] m.touched p
  pub touched_more : (i : ℕ) → has i (get [] m.touched me) ≡ true → has i (get [] T me) ≡ true
  pub changed_other : (p : ℕ) → p ≢ me → get [] C p ≡ get [] m.changed p
  pub changed_known : (i : ℕ) → has i (get [] C me) ≡ true → i < length (inlets_of m.inlets me)
  pub waits_other : (p : ℕ) → p ≢ me → get [] W p ≡ get [] m.waits p
  pub seen_other : (p : ℕ) → p ≢ me → get [] E p ≡ get [] m.seen p
  pub notes : Noted (length (inlets_of m.inlets me)) (get [] W me) (get [] E me)
  pub right : (i x : ℕ) → At (inlets_of m.inlets me) i x → get waiting (get [] E me) i ≡ shows_at m.ports Q x

-- a full port stays full, or is one that was read
look_full : (me : ℕ) (m : Machine) (Q : List (List Batch)) (T C W : List InletSet) (E : List (List Seen)) → Look me m Q T C W E
    → (x : ℕ) → Full (Touched m me) m.queues x → Full (Touched (with_touched T m) me) Q x
look_full me m Q T C W E k x (inl e) =
    by_bool (has x (inlets_of m.inlets me))
    (λ b. let r : (i : ℕ) × At (inlets_of m.inlets me) i x = has_at (inlets_of m.inlets me) x b in read r.0 r.1 (k.queue_read r.0 x r.1))
    (λ b. inl (rw (k.queue_other x b) e))
  where
    read : (i : ℕ) → At (inlets_of m.inlets me) i x → (queue_of Q x ≡ queue_of m.queues x) ⊎ (has i (get [] T me) ≡ true) → Full (Touched (with_touched T m) me) Q x
    read i a (inl d) = inl (rw d e)
    read i a (inr d) = inr (i, d, a)
look_full me m Q T C W E k x (inr e) = inr (e.0, k.touched_more e.0 e.1, e.2)

-- what packs have seen: of `me` all is as it is, of others nothing has changed
look_packs : (me : ℕ) (m : Machine) (Q : List (List Batch)) (T C W : List InletSet) (E : List (List Seen)) → Look me m Q T C W E
    → ((p i x : ℕ) → Live m.pipes p → p ≢ me → At (inlets_of m.inlets p) i x → queue_of Q x ≡ queue_of m.queues x)
    → Packs m.pipes m.sources m.inlets m.ports m.queues m.changed m.waits m.seen
    → Packs m.pipes m.sources m.inlets m.ports Q C W E
look_packs me m Q T C W E k apart v = record {
  size = λ p l e. by_eq p me (λ c. rw c k.notes.size) (λ n. rw (k.seen_other p n) (v.size p l e));
  waits = λ p i x l e a. by_eq p me
      (λ c. rw c (k.notes.waits i (at_below (inlets_of m.inlets me) i x (rw c at a))))
      (λ n. rw (k.waits_other p n, k.seen_other p n) (v.waits p i x l e a));
  seen = λ p i x l e a. by_eq p me
      (λ c. rw c (inr (inl (k.right i x (rw c at a)))))
      (λ n. rw (k.changed_other p n, k.seen_other p n, apart p i x l n a) (v.seen p i x l e a));
  unique = λ p l e. by_eq p me (λ c. rw c k.notes.unique) (λ n. rw (k.waits_other p n) (v.unique p l e));
  within = λ p i l e. by_eq p me (λ c. rw c (k.notes.within i)) (λ n. rw (k.waits_other p n) (v.within p i l e));
  known = λ p i l e. by_eq p me (λ c. rw c (k.changed_known i)) (λ n. rw (k.changed_other p n) (v.known p i l e));
}

-- the whole
pub look_ok : (out : ℕ → List Row) (told me : ℕ) (hand hand' : List Row) (m : Machine) (Q : List (List Batch)) (T C W : List InletSet) (E : List (List Seen)) (F : ℕ → List Row)
    → (b : Busy me hand out told m) → source_of m.sources me ≡ pack → Look me m Q T C W E
    → Flow m.job m.active m.pipes m.sources m.stages m.inlets m.ports Q me hand' F b.inv.W
    → Splits m.job m.next m.active m.outputs F out
    → Delivered m.job m.pipes m.stages Q m.reads m.outputs
    → Busy me hand' out told (with_queues Q (with_touched T (with_changed C (with_waits W (with_seen E m)))))
look_ok out told me hand hand' m Q T C W E F b e k flow splits delivered =
    let v : _ = b.inv in
    let at : PackPlace me m.stages (inlets_of m.inlets me) m.ports = pack_place me v.job v.pipes v.ports b.running.live e in
    record {
      inv = record {
        F = F;
        W = v.W;
        job = v.job;
        slots = v.slots;
        pipes = v.pipes;
        ports = record {
          alive = v.ports.alive;
          opens = v.ports.opens;
          inlets = v.ports.inlets;
          readers = v.ports.readers;
          slots = v.ports.slots;
          roots = v.ports.roots;
          absent = λ x a. k.queue_none x (v.ports.absent x a);
          blank = v.ports.blank;
        };
        shares = shares_requeue m.queues Q (λ x h. k.queue_other x (not_at (inlets_of m.inlets me) x (λ i a. omega (arith, h, at.below i x a)))) v.shares;
        flow = flow;
        past = past_requeue m.queues Q k.queue_none v.past;
        splits = splits;
        queued = v.queued;
        waits = record {
          on_io = v.waits.on_io;
          on_inlet = λ p i l s. let r : _ = v.waits.on_inlet p i l s in (r.0, r.1, idle_requeue m.queues Q k.queue_none m.ports r.0 r.2);
          on_outlet = λ p l s. let r : _ = v.waits.on_outlet p l s in (r.0, look_full me m Q T C W E k p r.1);
        };
        dirt = record { clean = λ s t a c. idle_requeue m.queues Q k.queue_none m.ports _ (v.dirt.clean s t a c); active = v.dirt.active; differ = v.dirt.differ };
        quiet = record { marks = v.quiet.marks; touches = λ p l n. k.touched_other p n ∙ v.quiet.touches p l n; present = v.quiet.present };
        packs = look_packs me m Q T C W E k (λ p i x l n a. k.queue_other x (other_inlet me p i x v.ports b.running.live l n a)) v.packs;
        reads = v.reads;
        once = v.once;
        delivered = delivered;
        numbers = v.numbers;
        tells = v.tells;
        sound = v.sound;
      };
      running = record { live = b.running.live; state = b.running.state; unqueued = b.running.unqueued };
      calm = b.calm;
      is_open = b.is_open;
    }
