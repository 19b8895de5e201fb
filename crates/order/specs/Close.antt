-- A run's end: the outlets are closed, or one is full.
use Rattle.std.specs.Prelude.{◌≡◌, refl, ◌≢◌, true, false, ◌&&◌, not, List, [], ◌∷◌, ℕ, suc, ◌<◌, ◌≤◌, ltb}
use Rattle.std.proofs.Common.{sym, ap, ◌∙◌, inl, inr, arith, ltb-true, ltb-false, le-leb}
use Rattle.std.proofs.Math.Bool.{and-false, or-true, or-false}
use Rattle.std.proofs.Math.Option.{Option, none, some}
use Rattle.rules.specs.Table.{given, is_some}
use Rattle.rules.specs.Job.{Job}
use Rattle.rules.specs.Plan.{Row, node_of}
use Rattle.rules.specs.InletSet.{InletSet}
use Rattle.rules.specs.Port.{Batch, Seen, is_full, capacity}
use Rattle.rules.specs.Operators.{Source}
use Rattle.rules.specs.Machine.{Machine, Pipeline, Stage, Reader, nobody, Port, share_port, slot_places, no_port, is_share_port, port_at, queue_at, stage_at, outlets, set_port, with_ports}
use Rattle.rules.specs.Ports.{closed_now, is_nobody, close_to, close_each}
use Rattle.rules.specs.Wake.{full, any_full}
use Rattle.rules.specs.Drive.{at_outlet, done, is_over, advance_stage, round}
use Rattle.laws.specs.Table.{by_bool, clash, other, and_left, and_right}
use Rattle.laws.specs.Rising.{Rising}
use Rattle.order.specs.Inv.{There, shut, reader_of, port_of, queue_of, stage_of, whole, Ports, SharePort, Shares, Flow, Ended, Past, Idle, Waits, Dirt, Quiet, Packs, segment_of}
use Rattle.order.specs.State.{OutletOf, Busy, Stopped, RoundOk}
use Rattle.order.specs.Base.{share_above}
use Rattle.order.specs.Among.{Among, by_among, rising_low}
use Rattle.order.specs.Outlets.{outlets_among, among_outlets, outlets_there, outlets_rise, outlet_share, outlet_slot, never_full, full_slot}
use Rattle.order.specs.Write.{map_at, map_out, map_in, reader_of_lem, share_keep}
use Rattle.order.specs.Sharing.{outlet_leaf, only_me, share_held}
use Rattle.order.specs.Views.{shut_of}

-- the open ports xs were closed
pub record Closes (xs : List ℕ) (O O' : List Port) : Type 0 where
  pub off : (x : ℕ) → (Among x xs → ⊥) → port_of O' x ≡ port_of O x
  pub on : (x : ℕ) → Among x xs → (port_of O' x ≡ closed_now (port_of O x)) × There O x × (shut O x ≡ false)

module _ (xs : List ℕ) (O O' : List Port) (w : Closes xs O O') where
  pub closes_there : (x : ℕ) → (port_of O' x).there ≡ (port_of O x).there
  closes_there x = by_among x xs (λ a. rw (w.on x a).0) (λ n. rw (w.off x n))

  pub closes_reader : (x : ℕ) → reader_of O' x ≡ reader_of O x
  closes_reader x = by_among x xs (λ a. ap (λ (z : Port). z.reader) (w.on x a).0) (λ n. reader_of_lem O' O x (w.off x n))

  -- closed now, and marked
  pub closes_shut : (x : ℕ) → Among x xs → shut O' x ≡ true
  closes_shut x a = ap (λ (z : Port). z.closed) (w.on x a).0

  closes_marks : (x : ℕ) → Among x xs → (port_of O' x).changed ≡ true
  closes_marks x a = rw ((w.on x a).0, (w.on x a).2) (or-true (port_of O x).changed)

  -- what is still open was not closed
  pub closes_open : (x : ℕ) → shut O' x ≡ false → (Among x xs → ⊥) × (shut O x ≡ false)
  closes_open x c = by_among x xs (λ a. clash (cc (closes_shut x a, c))) (λ n. (n, sym (shut_of O' O x (w.off x n)) ∙ c))

  closes_ended : (Q : List (List Batch)) (x : ℕ) → Ended O Q x → Ended O' Q x
  closes_ended Q x e = by_among x xs (λ a. (closes_shut x a, e.1)) (λ n. (shut_of O' O x (w.off x n) ∙ e.0, e.1))

  closes_idle : (Q : List (List Batch)) (x : ℕ) → Idle O Q x → Idle O' Q x
  closes_idle Q x i = by_among x xs (λ a. inr (closes_marks x a)) (λ n. rw (shut_of O' O x (w.off x n), w.off x n) i)

  closes_ports : {j : Job} {A : List (Option ℕ)} {P : List Pipeline} {I : List (List ℕ)} {Q : List (List Batch)} (who who' : ℕ → Type 0)
      → ((p : ℕ) → p < slot_places → who' p → who p × (Among p xs → ⊥)) → Ports j A who P I O Q → Ports j A who' P I O' Q
  closes_ports who who' h v = record {
    alive = λ p l s k. rw (closes_there p, shut_of O' O p (w.off p (h p s k).1)) (v.alive p l s (h p s k).0);
    opens = λ x s t c. v.opens x s (sym (closes_there x) ∙ t) (closes_open x c).1;
    inlets = λ p i x l a. rw (closes_there x, closes_reader x) (v.inlets p i x l a);
    readers = λ x p i t r. v.readers x p i (sym (closes_there x) ∙ t) (sym (closes_reader x) ∙ r);
    slots = λ x s t. let u = v.slots x s (sym (closes_there x) ∙ t) in
        record { split = u.split; is = u.is; node = u.node; keep = u.keep; read = rw (closes_reader x) u.read; root = rw (closes_reader x) u.root };
    roots = λ k s e. rw (closes_there _, closes_reader _) (v.roots k s e);
    absent = λ x t. v.absent x (sym (closes_there x) ∙ t);
    blank = λ x t. by_among x xs (λ a. clash (cc (sym (closes_there x) ∙ t, (w.on x a).1))) (λ n. rw (shut_of O' O x (w.off x n)) (v.blank x (sym (closes_there x) ∙ t)));
  }

  closes_past : {P : List Pipeline} {S : List Source} {G : List Stage} {I : List (List ℕ)} {Q : List (List Batch)} → Past P S G I O Q → Past P S G I O' Q
  closes_past {Q} v = record {
    before = λ p c i x l e a h. closes_ended Q x (v.before p c i x l e a h);
    within = v.within;
    all = λ p i x l e a. closes_ended Q x (v.all p i x l e a);
    emit = v.emit;
    more = v.more;
    stage_count = v.stage_count;
    spent = v.spent;
  }

  closes_waits : {who freed : ℕ → Type 0} {P : List Pipeline} {S : List Source} {I : List (List ℕ)} {Q : List (List Batch)} → Waits who freed P S I O Q → Waits who freed P S I O' Q
  closes_waits {Q} v = record {
    on_io = v.on_io;
    on_inlet = λ p i l e. let u = v.on_inlet p i l e in (u.0, u.1, closes_idle Q u.0 u.2);
    on_outlet = v.on_outlet;
  }

  closes_dirt : {j : Job} {A : List (Option ℕ)} {Q : List (List Batch)} {dirty : List ℕ} → Dirt j A O Q dirty → Dirt j A O' Q dirty
  closes_dirt {Q} v = record { clean = λ k s e h. closes_idle Q _ (v.clean k s e h); active = v.active; differ = v.differ }

  closes_quiet : {who loud : ℕ → Type 0} {P : List Pipeline} {T : List InletSet} → ((x : ℕ) → Among x xs → loud x) → Quiet who loud P O T → Quiet who loud P O' T
  closes_quiet h v = record {
    marks = λ x e. by_among x xs (h x) (λ n. v.marks x (rw (w.off x n) at e));
    touches = v.touches;
    present = λ x e. rw (closes_there x) (by_among x xs (λ a. (w.on x a).1) (λ n. v.present x (rw (w.off x n) at e)));
  }

  closes_packs : {P : List Pipeline} {S : List Source} {I : List (List ℕ)} {Q : List (List Batch)} {C B : List InletSet} {E : List (List Seen)} → Packs P S I O Q C B E → Packs P S I O' Q C B E
  closes_packs v = record {
    size = v.size;
    unique = v.unique;
    within = v.within;
    known = v.known;
    waits = v.waits;
    seen = λ p i x l e a. by_among x xs (λ h. inr (inr (closes_marks x h))) (λ n. rw (shut_of O' O x (w.off x n), w.off x n) (v.seen p i x l e a));
  }

  -- nothing was to come of a slot's port, and a shared port holds the whole segment
  closes_flow : {j : Job} {A : List (Option ℕ)} {P : List Pipeline} {S : List Source} {G : List Stage} {I : List (List ℕ)} {me : ℕ} {hand : List Row} {F : ℕ → List Row}
      (Q : List (List Batch)) (W : ℕ → List Row) → ((x : ℕ) → x < slot_places → Among x xs → W x ≡ []) → ((x : ℕ) → slot_places ≤ x → Among x xs → (b : Batch) × (queue_of Q x ≡ b ∷ []))
      → Flow j A P S G I O Q me hand F W → Flow j A P S G I O' Q me hand F W
  closes_flow Q W h k f = record {
    port = λ x s. by_among x xs (λ a. f.port x s ∙ rw (closes_shut x a, h x s a, (w.on x a).2)) (λ n. rw (shut_of O' O x (w.off x n)) (f.port x s));
    share = λ l t s. by_among (share_port l t) xs
        (λ a. f.share l t s ∙ rw (k (share_port l t) (share_above l t) a).1)
        (λ n. rw (shut_of O' O (share_port l t) (w.off (share_port l t) n)) (f.share l t s));
    pipes = f.pipes;
    mine = f.mine;
    ends = f.ends;
    even = f.even;
  }

-- closing a port that somebody reads, or a shared one
close_to_lem : (x : ℕ) (m : Machine) → is_nobody (port_at m x).reader && not (is_share_port x) ≡ false → close_to x m ≡ set_port x (closed_now (port_at m x)) m
close_to_lem x m h = rw (h, close_to)

pub close_each_lem : (n : ℕ) (xs : List ℕ) (m : Machine) → Rising n xs → ((x : ℕ) → Among x xs → is_nobody (port_at m x).reader && not (is_share_port x) ≡ false)
    → close_each xs m ≡ with_ports (map_at no_port closed_now xs m.ports) m
unfolding close_each
close_each_lem n [] m r h = refl
close_each_lem n (x ∷ xs) m r h =
    rw (close_to_lem x m (h x (inl refl)))
    (close_each_lem (suc x) xs (set_port x (closed_now (port_at m x)) m) r.1
    (λ y a. let k : y ≢ x = λ e. omega (arith, rising_low (suc x) y xs r.1 a) in rw other (h y (inr a))))

closed_is : (n : ℕ) (xs : List ℕ) (O : List Port) → Rising n xs → ((x : ℕ) → Among x xs → There O x × (shut O x ≡ false)) → Closes xs O (map_at no_port closed_now xs O)
closed_is n xs O r h = record {
  off = λ x a. map_out no_port closed_now xs O x a;
  on = λ x a. (map_in no_port closed_now n xs O x r a, (h x a).0, (h x a).1);
}

-- the source has ended and nothing continues
some_given : (n : ℕ) (o : Option ℕ) → is_some n o ≡ true → given o ≡ true
unfolding is_some given
some_given n none e = e
some_given n (some k) e = refl

pub over_ends : (st : Stage) → is_over st ≡ true → given st.finishing ≡ true
over_ends st e = some_given _ st.finishing (and_left _ (not st.continuing) e)

reads_it : (r : Reader) → r ≢ nobody → is_nobody r ≡ false
reads_it Reader.nobody h = absurd (h refl)
reads_it Reader.slot h = refl
reads_it (Reader.pipe p i) h = refl

module _ (out : ℕ → List Row) (told me : ℕ) (m : Machine) {hand : List Row} (v : Busy me hand out told m) where
  -- the outlets are there, and open
  pub outlet_open : (x : ℕ) → Among x (outlets m me) → There m.ports x × (shut m.ports x ≡ false)
  outlet_open x a = let o = outlets_among m me x a in by_bool (ltb me slot_places)
      (λ d. let e : x ≡ me = outlet_slot m.job me x (ltb-true me slot_places d) o in rw e (v.inv.ports.alive me v.running.live (ltb-true me slot_places d) tt))
      (λ d. let t : There m.ports x = outlets_there m me x (ltb-false me slot_places d) a in (t, v.is_open x o t))

  -- so closing frees none
  outlet_read : (x : ℕ) → Among x (outlets m me) → is_nobody (port_at m x).reader && not (is_share_port x) ≡ false
  outlet_read x a = by_bool (ltb x slot_places)
      (λ d. rw (reads_it (reader_of m.ports x) (v.inv.ports.slots x (ltb-true x slot_places d) (outlet_open x a).0).read))
      (λ d. rw (le-leb slot_places x (ltb-false x slot_places d)) (and-false (is_nobody (port_at m x).reader)))

  -- a shared outlet has its entry
  pub outlet_entry : (x : ℕ) → slot_places ≤ x → Among x (outlets m me) → SharePort m.job (λ p. p ≡ me) m.unbuilt m.pipes m.sources m.ports m.queues x
  outlet_entry x s a = v.inv.shares.ports x s (outlet_open x a).0

  -- only a shared source has shared outlets
  pub outlet_above : (x : ℕ) → slot_places ≤ x → Among x (outlets m me) → slot_places ≤ me
  outlet_above x s a = by_bool (ltb me slot_places) (λ d. let e : x ≡ me = outlet_slot m.job me x (ltb-true me slot_places d) (outlets_among m me x a) in absurd (omega (arith, ltb-true me slot_places d))) (λ d. ltb-false me slot_places d)

  pub outlet_segment : (x : ℕ) (s : slot_places ≤ x) (a : Among x (outlets m me)) → (node_of m.job (outlet_entry x s a).leaf).segment ≡ segment_of m.job me
  outlet_segment x s a =
      let e = outlet_entry x s a in
      outlet_leaf m.job me x e.leaf e.split v.inv.job.splits_high (outlet_above x s a) (outlets_among m me x a) e.is e.below

-- the shared ports after a shared source closed its own: each holds the whole segment, and no other source has it
over_shares : (out : ℕ → List Row) (told me : ℕ) (m : Machine) (v : Busy me [] out told m) (O' : List Port) → Closes (outlets m me) m.ports O'
    → ((x : ℕ) (s : slot_places ≤ x) (a : Among x (outlets m me)) → queue_of m.queues x ≡ whole m.job (outlet_entry out told me m v x s a).leaf ∷ [])
    → Shares m.job (λ p. p ≡ me) m.next m.unbuilt m.pipes m.sources O' m.queues
over_shares out told me m v O' w held = record {
  ports = λ x s t. by_among x (outlets m me)
      (λ a. closed x s a (outlet_entry out told me m v x s a) (held x s a) (outlet_segment out told me m v x s a))
      (λ n. share_keep m.ports O' m.queues m.queues x (w.off x n) refl (v.inv.shares.ports x s (sym (closes_there (outlets m me) m.ports O' w x) ∙ t)));
  waits = λ l t a b c n k o.
      rw (closes_there (outlets m me) m.ports O' w (share_port l t), closes_reader (outlets m me) m.ports O' w (share_port l t)) (v.inv.shares.waits l t a b c n k o);
  unbuilt = v.inv.shares.unbuilt;
}
  where
    closed : (x : ℕ) → slot_places ≤ x → Among x (outlets m me) → (e : SharePort m.job (λ p. p ≡ me) m.unbuilt m.pipes m.sources m.ports m.queues x)
        → queue_of m.queues x ≡ whole m.job e.leaf ∷ [] → (node_of m.job e.leaf).segment ≡ segment_of m.job me
        → SharePort m.job (λ p. p ≡ me) m.unbuilt m.pipes m.sources O' m.queues x
    closed x s a e q g = record {
      leaf = e.leaf;
      split = e.split;
      is = e.is;
      below = e.below;
      is_leaf = e.is_leaf;
      pair = e.pair;
      shared = e.shared;
      built = e.built;
      holds = e.holds;
      opens = λ c. clash (cc (c, closes_shut (outlets m me) m.ports O' w x a));
      shuts = λ c p h.
          only_me m.job m.active m.pipes m.sources m.stages m.inlets m.next m.unbuilt m.reads v.inv.pipes v.inv.once me v.running.live
          (outlet_above out told me m v x s a) e.leaf p g h;
      full = λ c r. q;
      unslotted = λ z. e.unslotted (sym (closes_reader (outlets m me) m.ports O' w x) ∙ z);
    }

-- the run is over: every outlet is closed
pub over_ok : (out : ℕ → List Row) (told me : ℕ) (m : Machine) → Busy me [] out told m → is_over (stage_at m me) ≡ true → Stopped me done out told (close_each (outlets m me) m)
over_ok out told me m v e =
    let xs = outlets m me in
    let O = m.ports in
    let O' = map_at no_port closed_now xs O in
    let r : Rising 0 xs = outlets_rise m me v.inv.job.splits_high in
    let w : Closes xs O O' = closed_is 0 xs O r (outlet_open out told me m v) in
    let f : given (stage_of m.stages me).finishing ≡ true = over_ends (stage_at m me) e in
    let l = v.running.live in
    let held : (x : ℕ) (s : slot_places ≤ x) (a : Among x xs) → queue_of m.queues x ≡ whole m.job (outlet_entry out told me m v x s a).leaf ∷ [] = λ x s a.
    let k = outlet_above out told me m v x s a in
    share_held m.job m.active m.pipes m.sources m.stages m.inlets m.next m.unbuilt m.reads v.inv.pipes v.inv.once me l k
    (λ p. p ≡ me) O m.queues x (outlet_entry out told me m v x s a) (outlet_segment out told me m v x s a) (outlet_open out told me m v x a).1
    (v.inv.past.spent me l f (v.inv.pipes.shares me l k).source) in
    rw (close_each_lem 0 xs m r (outlet_read out told me m v))
    (record {
      inv = record {
        F = v.inv.F;
        W = v.inv.W;
        job = v.inv.job;
        slots = v.inv.slots;
        pipes = v.inv.pipes;
        ports = closes_ports xs O O' w (λ p. Unit {0}) (λ p. p ≢ me) (λ p s n. (tt, λ a. apart p s n (outlets_among m me p a))) v.inv.ports;
        shares = over_shares out told me m v O' w held;
        flow = closes_flow xs O O' w m.queues v.inv.W
            (λ x s a. let q : x ≡ me = mine x s (outlets_among m me x a) in rw q (v.inv.flow.ends me (rw q at s) l f))
            (λ x s a. (whole m.job (outlet_entry out told me m v x s a).leaf, held x s a)) v.inv.flow;
        past = closes_past xs O O' w v.inv.past;
        splits = v.inv.splits;
        queued = v.inv.queued;
        waits = closes_waits xs O O' w v.inv.waits;
        dirt = closes_dirt xs O O' w v.inv.dirt;
        quiet = closes_quiet xs O O' w (outlets_among m me) v.inv.quiet;
        packs = closes_packs xs O O' w v.inv.packs;
        reads = v.inv.reads;
        once = v.inv.once;
        delivered = v.inv.delivered;
        numbers = v.inv.numbers;
        tells = v.inv.tells;
        sound = v.inv.sound;
      };
      running = record { live = l; state = v.running.state; unqueued = v.running.unqueued };
      stops = (
        v.calm,
        λ i x a. closes_ended xs O O' w m.queues x (v.inv.past.all me i x l f a),
        λ x o t. closes_shut xs O O' w x (among_outlets m me x (sym (closes_there xs O O' w x) ∙ t) o),
      );
    })
  where
    mine : (x : ℕ) → x < slot_places → OutletOf m.job me x → x ≡ me
    mine x s (inl o) = o.1
    mine x s (inr (k, o)) = absurd (omega (arith, outlet_share m.job me x k (inr (k, o))))

    apart : (p : ℕ) → p < slot_places → p ≢ me → OutletOf m.job me p → ⊥
    apart p s n o = n (mine p s o)

-- the run stops at its full outlet
pub outlet_ok : (out : ℕ → List Row) (told me : ℕ) (m : Machine) → Busy me [] out told m → any_full m me ≡ true → Stopped me at_outlet out told m
outlet_ok out told me m v e =
    let s : me < slot_places = by_bool (ltb me slot_places) (λ d. ltb-true me slot_places d) (λ d. clash (cc (never_full m me (ltb-false me slot_places d), e))) in
    let f : full m me ≡ true = sym (or-false (full m me)) ∙ sym (full_slot m me s) ∙ e in
    record {
      inv = v.inv;
      running = v.running;
      stops = (v.calm, s, and_right (not (is_share_port me)) (is_full capacity (queue_at m me)) f);
    }

-- a round: over, at a full outlet, or one that advances
pub round_by : (out : ℕ → List Row) (told me : ℕ) (m : Machine) → Busy me [] out told m
    → (is_over (stage_at m me) ≡ false → any_full m me ≡ false → RoundOk me out told (advance_stage me (stage_at m me) m)) → RoundOk me out told (round me m)
unfolding round
round_by out told me m v h = by_bool (is_over (stage_at m me))
    (λ d. rw (d, round) (over_ok out told me m v d))
    (λ d. by_bool (any_full m me) (λ f. rw (d, f, round) (outlet_ok out told me m v f)) (λ f. rw (d, f, round) (h d f)))
