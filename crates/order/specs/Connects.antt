-- A laid pipeline gets its port, its number and its place on the ready stack.
use Rattle.std.specs.Prelude.{◌≡◌, refl, ◌≢◌, false, ◌&&◌, List, [], ℕ, ◌<◌, length}
use Rattle.std.proofs.Common.{sym, ◌∙◌, arith}
use Rattle.rules.specs.Job.{Job}
use Rattle.rules.specs.Table.{put}
use Rattle.rules.specs.Plan.{Row, root_of, leaves_of}
use Rattle.rules.specs.Operators.{runnable}
use Rattle.rules.specs.Machine.{Machine, Reader, nobody, slot, pipe, place, share_port, slot_places, places, no_pipe, no_port, pipe_at, set_port, set_queue, with_pipes, with_ready, with_freed, with_made}
use Rattle.rules.specs.Shares.{empty_port, is_waiting}
use Rattle.rules.specs.Lower.{connect}
use Rattle.laws.specs.Table.{by_bool, same, other}
use Rattle.order.specs.Inv.{Live, port_of, pipe_of, state_of, SlotPort}
use Rattle.order.specs.Base.{place_node, place_bound}
use Rattle.order.specs.Lowers.{ToClaim}
use Rattle.order.specs.Tally.{lives_most, filter_same, fewer}
use Rattle.order.specs.Views.{reader_same}
use Rattle.order.specs.Add.{queued_as, Added, add_shape}
use Rattle.order.specs.Laying.{Laying}
use Rattle.order.specs.Connect.{alike, pipes_connect, shares_connect, flow_connect, past_connect, packs_connect, waits_connect, dirt_connect, quiet_connect, reads_connect, once_connect, delivered_connect, ports_connect, queued_connect, laid_some, numbers_connect}

-- what a connection changes
pub record Wired (p : ℕ) (r : Reader) (m m' : Machine) : Type 0 where
  pub job : m'.job ≡ m.job
  pub live : (q : ℕ) → (pipe_of m'.pipes q).live ≡ (pipe_of m.pipes q).live
  pub pipe_far : (q : ℕ) → q ≢ p → pipe_of m'.pipes q ≡ pipe_of m.pipes q
  pub port_far : (x : ℕ) → x ≢ p → port_of m'.ports x ≡ port_of m.ports x
  pub port_near : port_of m'.ports p ≡ empty_port r

-- what a reader may be: of an inlet that `to'` names, or the slot at the root
pub record MayRead (j : Job) (c p : ℕ) (r : Reader) (to to' : ℕ → ℕ → ℕ → Type 0) : Type 0 where
  pub some : r ≢ nobody
  pub root : r ≡ slot → c ≡ root_of j
  pub wide : (x q h : ℕ) → to x q h → to' x q h
  pub names : (q h : ℕ) → r ≡ pipe q h → to' p q h

module _ (k s i c : ℕ) (to to' : ℕ → ℕ → ℕ → Type 0) (out : ℕ → List Row) (told : ℕ) (m : Machine) (r : Reader) (v : Laying k s i to out told m) (few : c < 24)
    (alive : Live m.pipes (place k c)) (gone : (port_of m.ports (place k c)).there ≡ false) (calm : state_of m.pipes (place k c) ≡ runnable)
    (by : MayRead m.job c (place k c) r to to') where
  -- its place is of a slot
  low : place k c < slot_places
  low = place_bound k c v.slot_below few

  -- there is a number left
  numbers_left : m.freed ≡ [] → m.made < places
  numbers_left e =
      let l = laid_some k c few r 0 m.pipes m.ports alive gone in
      let z : length m.freed ≡ 0 = rw e in
      omega (arith, l, z, v.numbers.balance, v.numbers.size, lives_most m.pipes)

  -- and a place on the ready stack
  stack_left : (pipe_at m (place k c)).queued ≡ false → length m.ready < places
  stack_left e = fewer places (λ q. (pipe_of m.pipes q).live && (pipe_of m.pipes q).queued) m.ready v.queued.counts
      (λ q b. by_bool (pipe_of m.pipes q).live (λ l. let n = v.pipes.bound q l in absurd (omega arith)) (λ l. rw l))
      (place k c)
      (omega (arith, low))
      (rw (alive, e))

  abbrev before : Machine
  before = set_queue (place k c) [] (set_port (place k c) (empty_port r) m)

  -- what is written
  shape : Added (place k c) before (connect (place k c) r m)
  shape = add_shape (place k c) before numbers_left stack_left

  abbrev after : Machine
  after =
      with_ready shape.ready' (with_freed shape.freed' (with_made shape.made'
      (with_pipes (put no_pipe m.pipes (place k c) (queued_as (pipe_of m.pipes (place k c)).live shape.number)) before)))

  -- the port is of the slot
  slot_port : SlotPort m.job m.active (put no_port m.ports (place k c) (empty_port r)) (place k c)
  slot_port = let y = v.pipes.slots (place k c) alive low in record {
    split = y.split;
    is = y.is;
    node = y.node;
    keep = y.keep;
    read = rw reader_same by.some;
    root = λ e. place_node k c few ∙ by.root (rw reader_same at e);
  }

  -- leaves find what they found
  claims_after : ToClaim s i after
  claims_after = record {
    ports = λ g a b e. rw (filter_same (λ l. is_waiting after (share_port l s)) (λ l. is_waiting m (share_port l s)) (leaves_of m.job g)
        (λ l. let n : share_port l s ≢ place k c = λ d. omega (arith, low, d) in rw other)) (v.claims.ports g a b e);
    unread = v.claims.unread;
    unsourced = λ l p a b d e h. v.claims.unsourced l p a b d e (sym (alike (place k c) low r shape.number m.pipes m.ports m.queues gone p) ∙ h);
  }

  -- all groups
  laying_after : Laying k s i to' out told after
  laying_after =
      let p = place k c in
      let n = shape.number in
      let P = m.pipes in
      let O = m.ports in
      let Q = m.queues in
      let y = v.rows c (rw (place_node k c few) at (v.pipes.slots p alive low).node) in
      record {
        F = v.F;
        W = v.W;
        job = v.job;
        slot_below = v.slot_below;
        split = v.split;
        is_next = v.is_next;
        slots = v.slots;
        pipes = pipes_connect p low r n P O Q gone m.job m.active m.sources m.stages m.inlets v.pipes;
        ports = ports_connect p low r n P O Q gone m.job m.active k to to' m.inlets alive slot_port by.wide by.names v.ports;
        shares = shares_connect p low r n P O Q gone m.job (λ q. ⊥) m.next m.unbuilt m.sources v.shares;
        flow = flow_connect p low r n P O Q gone m.job m.active m.sources m.stages m.inlets v.F v.W (y.0 ∙ sym y.1) v.flow;
        past = past_connect p low r n P O Q gone m.inlets (λ q h x l a. (v.ports.inlets q h x l a).0) m.sources m.stages v.past;
        splits = v.splits;
        queued = queued_connect p low r n P O Q gone k m.ready shape.ready' alive shape.pushed v.queued;
        waits = waits_connect p low r n P O Q gone m.inlets (λ q h x l a. (v.ports.inlets q h x l a).0) m.sources calm v.waits;
        dirt = dirt_connect p low r n P O Q gone m.job m.active m.dirty v.dirt;
        quiet = quiet_connect p low r n P O Q gone m.touched v.quiet;
        packs = packs_connect p low r n P O Q gone m.inlets (λ q h x l a. (v.ports.inlets q h x l a).0) m.sources m.changed m.waits m.seen v.packs;
        reads = reads_connect p low r n P O Q gone m.job m.sources m.reads v.reads;
        once = once_connect p low r n P O Q gone m.job m.next m.unbuilt m.sources m.reads v.once;
        delivered = delivered_connect p low r n P O Q gone m.job m.stages m.reads m.outputs v.delivered;
        numbers = numbers_connect k c few r n P O alive gone m.freed shape.freed' m.made shape.made' v.slot_below shape.taken v.numbers;
        tells = v.tells;
        sound = v.sound;
        rows = v.rows;
        claims = claims_after;
      }

  -- what has changed
  wired_after : Wired (place k c) r m after
  wired_after = record {
    job = refl;
    live = alike (place k c) low r shape.number m.pipes m.ports m.queues gone;
    pipe_far = λ q n. rw other;
    port_far = λ x n. rw other;
    port_near = rw same;
  }

  -- the pipeline is connected
  pub connect_ok : Laying k s i to' out told (connect (place k c) r m)
  connect_ok = rw shape.is laying_after

  -- and that is all
  pub connect_wired : Wired (place k c) r m (connect (place k c) r m)
  connect_wired = rw shape.is wired_after
