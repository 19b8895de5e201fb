-- The beginning of a run; and the invariant where pipelines change their state only.
use Rattle.std.specs.Prelude.{◌≡◌, refl, ◌≢◌, ◌⊎◌, true, false, ◌&&◌, List, [], ◌∷◌, ℕ, suc, ◌<◌, ◌≤◌, length}
use Rattle.std.proofs.Common.{sym, ap, ◌∙◌, inl, inr, arith}
use Rattle.rules.specs.Table.{get, put}
use Rattle.rules.specs.Plan.{Row, is_leaf}
use Rattle.rules.specs.InletSet.{InletSet}
use Rattle.rules.specs.Port.{Batch}
use Rattle.rules.specs.Operators.{inlet, State, runnable, blocked, outlet, Source}
use Rattle.rules.specs.Machine.{Machine, Pipeline, Port, no_pipe, share_port, slot_places, places, pipe_at, set_pipe, with_pipes, with_ready, with_touched}
use Rattle.rules.specs.Wake.{with_queued}
use Rattle.laws.specs.Table.{by_bool, by_eq, clash, same, other, put_length, and_left, and_right}
use Rattle.order.specs.Inv.{Live, There, shut, port_of, pipe_of, source_of, state_of, inlets_of, At, Sources, emitted, SharePort, Queued, Waits, Quiet, Full, Idle, bit, count, is_run, is_io, pend}
use Rattle.order.specs.State.{Inv, all, no, Rests, OutletOf, Touched, Busy}
use Rattle.order.specs.Base.{share_leaf}
use Rattle.order.specs.Count.{count_same, count_other, lives_alike}
use Rattle.order.specs.Frame.{Alike, ports_refl, alike_put, pipes_down, once_down, reads_down, past_down, packs_down, ports_alike, shares_alike, flow_alike, delivered_alike}

-- the same pipelines are in use: only what speaks of states, the stack, marks and touched inlets has to be shown
pub repiped : (me me' : ℕ) (who who' «open» open' loud loud' freed freed' busy busy' : ℕ → Type 0) (out : ℕ → List Row) (told : ℕ) (m : Machine) (P' : List Pipeline) (ready' : List ℕ) (T' : List InletSet)
    → Inv me [] who «open» loud freed busy out told m → Alike m.pipes P' → length P' ≡ length m.pipes
    → ((p : ℕ) → Live m.pipes p → open' p → «open» p)
    → ((x l t p : ℕ) → There m.ports x → x ≡ share_port l t → is_leaf m.job l ≡ true → t < length m.job.splits → Sources m.job m.pipes l p → busy p
    → (shut m.ports x ≡ true) ⊎ (emitted (source_of m.sources p) ≡ 1) → busy' p)
    → Queued who' P' ready' → Waits who' freed' P' m.sources m.inlets m.ports m.queues → Quiet who' loud' P' m.ports T'
    → Inv me' [] who' open' loud' freed' busy' out told (with_touched T' (with_ready ready' (with_pipes P' m)))
repiped me me' who who' «open» open' loud loud' freed freed' busy busy' out told m P' ready' T' v L n o b q w z =
    let P = m.pipes in
    let O = m.ports in
    let j = m.job in
    let d : (p : ℕ) → Live P' p → Live P p = λ p l. sym (L p) ∙ l in
    record {
      F = v.F;
      W = v.W;
      job = v.job;
      slots = v.slots;
      pipes = pipes_down j P P' d m.active m.sources m.stages m.inlets v.pipes;
      ports = ports_alike j P P' O O L (ports_refl O) m.active «open» open' m.inlets m.queues o v.ports;
      shares = shares_alike j P P' O O L (ports_refl O) busy busy' m.next m.unbuilt m.sources m.queues b v.shares;
      flow = flow_alike j P P' O O L (ports_refl O) m.active m.sources m.stages m.inlets m.queues me me' v.F v.W v.flow;
      past = past_down j P P' d O O m.queues m.queues m.inlets (λ p i x l a. (refl, refl)) m.sources m.stages v.past;
      splits = v.splits;
      queued = q;
      waits = w;
      dirt = v.dirt;
      quiet = z;
      packs = packs_down j P P' d O O m.queues m.queues m.inlets (λ p i x l a. (refl, refl)) m.sources m.changed m.changed m.waits m.seen v.packs
          (λ p i x l a c. c) (λ p i x l a c. inr c) (λ p i l. v.packs.known p i (d p l));
      reads = reads_down j P P' d m.sources m.reads (λ p l e. L p ∙ l) v.reads;
      once = once_down j P P' d m.next m.unbuilt m.sources m.reads v.once;
      delivered = delivered_alike j P P' O O L (ports_refl O) m.stages m.queues m.reads m.outputs v.delivered;
      numbers = record { size = n ∙ v.numbers.size; balance = rw (lives_alike P P' n L) v.numbers.balance; few = v.numbers.few };
      tells = v.tells;
      sound = v.sound;
    }

-- one pipeline changes: what it waits for, and whether it is on the stack
module _ (P : List Pipeline) (p : ℕ) (y : Pipeline) (same_live : y.live ≡ (pipe_of P p).live) (who who' : ℕ → Type 0) (others : (q : ℕ) → who' q → q ≢ p → who q) where
  -- its neighbours' entries
  live_back : (q : ℕ) → Live (put no_pipe P p y) q → Live P q
  live_back q l = sym (alike_put P p y same_live q) ∙ l

  state_same : state_of (put no_pipe P p y) p ≡ y.state
  state_same = ap (λ (x : Pipeline). x.state) (same no_pipe P p y)

  state_other : (q : ℕ) → q ≢ p → state_of (put no_pipe P p y) q ≡ state_of P q
  state_other q n = ap (λ (x : Pipeline). x.state) (other no_pipe P p q y n)

  -- the stack
  pub queued_put : (ready ready' : List ℕ) → Queued who P ready → (who' p → y.queued ≡ is_run y.state)
      → ((q : ℕ) → q ≢ p → count q ready' ≡ count q ready) → count p ready' ≡ bit (y.live && y.queued) → Queued who' (put no_pipe P p y) ready'
  queued_put ready ready' v f c d = record {
    flags = λ q l w. by_eq q p (λ i. rw (i, state_same, same) (f (rw i at w))) (λ n. rw (state_other q n, other) (v.flags q (live_back q l) (others q w n)));
    counts = λ q. by_eq q p (λ i. rw (i, same) d) (λ n. c q n ∙ rw other (v.counts q));
  }

  -- what is waited for
  pub waits_put : (freed freed' : ℕ → Type 0) (S : List Source) (I : List (List ℕ)) (O : List Port) (Q : List (List Batch)) → Waits who freed P S I O Q
      → (who' p → pend (source_of S p) ≡ is_io y.state)
      → ((i : ℕ) → y.state ≡ blocked (inlet i) → (x : ℕ) × At (inlets_of I p) i x × Idle O Q x)
      → (y.state ≡ outlet → (p < slot_places) × Full freed' Q p)
      → ((q : ℕ) → q ≢ p → freed q → freed' q)
      → Waits who' freed' (put no_pipe P p y) S I O Q
  waits_put freed freed' S I O Q v a b c d = record {
    on_io = λ q l w. by_eq q p (λ i. rw (i, state_same) (a (rw i at w))) (λ n. rw (state_other q n) (v.on_io q (live_back q l) (others q w n)));
    on_inlet = λ q k l s. by_eq q p (λ i. rw i (b k (rw (i, state_same) at s))) (λ n. v.on_inlet q k (live_back q l) (rw (state_other q n) at s));
    on_outlet = λ q l s. by_eq q p (λ i. rw i (c (rw (i, state_same) at s))) (λ n. let o = v.on_outlet q (live_back q l) (rw (state_other q n) at s) in (o.0, full q n o.1));
  }
    where
      full : (q : ℕ) → q ≢ p → Full freed Q q → Full freed' Q q
      full q n (inl e) = inl e
      full q n (inr e) = inr (d q n e)

  -- marks and touched inlets
  pub quiet_put : (loud loud' : ℕ → Type 0) (O : List Port) (T T' : List InletSet) → Quiet who loud P O T → ((x : ℕ) → (port_of O x).changed ≡ true → loud x → loud' x)
      → ((q : ℕ) → q ≢ p → get [] T' q ≡ get [] T q) → (who' p → get [] T' p ≡ []) → Quiet who' loud' (put no_pipe P p y) O T'
  quiet_put loud loud' O T T' v f a b = record {
    marks = λ x c. f x c (v.marks x c);
    touches = λ q l w. by_eq q p (λ i. rw i (b (rw i at w))) (λ n. a q n ∙ v.touches q (live_back q l) (others q w n));
    present = v.present;
  }

-- the runnable state
is_run_lem : (s : State) → is_run s ≡ true → s ≡ runnable
is_run_lem runnable e = refl
is_run_lem (blocked b) e = clash (cc)
is_run_lem outlet e = clash (cc)

-- what is on the ready stack is in use, and runnable
module _ (out : ℕ → List Row) (told p : ℕ) (ps : List ℕ) (m : Machine) (v : Rests out told m) (e : m.ready ≡ p ∷ ps) where
  -- the first on the stack is counted
  ready_count : suc (count p ps) ≡ bit ((pipe_of m.pipes p).live && (pipe_of m.pipes p).queued)
  ready_count = sym (count_same p ps) ∙ (rw e at (v.queued.counts p))

  ready_both : (pipe_of m.pipes p).live && (pipe_of m.pipes p).queued ≡ true
  ready_both = by_bool ((pipe_of m.pipes p).live && (pipe_of m.pipes p).queued) (λ t. t) (λ t. clash (let c : suc (count p ps) ≡ 0 = ready_count ∙ rw t in omega arith))

  ready_none : count p ps ≡ 0
  ready_none = let c : suc (count p ps) ≡ 1 = ready_count ∙ rw ready_both in omega arith

  -- it is in use
  pub ready_live : Live m.pipes p
  ready_live = and_left (pipe_of m.pipes p).live (pipe_of m.pipes p).queued ready_both

  -- and runnable
  ready_run : state_of m.pipes p ≡ runnable
  ready_run = is_run_lem (state_of m.pipes p) (sym (v.queued.flags p ready_live tt) ∙ and_right (pipe_of m.pipes p).live (pipe_of m.pipes p).queued ready_both)

  -- the outlets of a pipeline at rest are open
  rest_open : (x : ℕ) → OutletOf m.job p x → There m.ports x → shut m.ports x ≡ false
  rest_open x (inl (h, i)) t = rw i (v.ports.alive p ready_live h tt).1
  rest_open x (inr (h, (l, s, b, i, a, g))) t =
      let h' : length m.job.splits ≤ 16 = v.job.splits_high in
      let y : SharePort m.job no m.unbuilt m.pipes m.sources m.ports m.queues x = v.shares.ports x (omega arith) t in
      let c : y.leaf ≡ l = share_leaf y.leaf y.split l s (let d : y.split < length m.job.splits = y.below in omega arith) (omega arith) (sym y.is ∙ i) in
      by_bool (shut m.ports x) (λ d. absurd (y.shuts d p (ready_live, h, sym g ∙ rw c))) (λ d. d)

  -- the newest ready pipeline begins to run
  pub begin_ok : Busy p [] out told (set_pipe p (with_queued false (pipe_at m p)) (with_ready ps m))
  begin_ok =
      let y = with_queued false (pipe_at m p) in
      let P' = put no_pipe m.pipes p y in
      let o : (q : ℕ) → q ≢ p → q ≢ p → Unit {0} = λ q w n. tt in
      let g : pipe_of P' p ≡ y = same no_pipe m.pipes p y in
      record {
        inv = repiped places p all (λ q. q ≢ p) all all no (OutletOf m.job p) no (Touched m p) no (λ q. q ≡ p) out told m P' ps m.touched v
            (alike_put m.pipes p y refl) (put_length no_pipe m.pipes p y (rw v.numbers.size (v.pipes.bound p ready_live)))
            (λ q l o. tt) (λ x l t q u i a b s f. absurd f)
            (queued_put m.pipes p y refl all (λ q. q ≢ p) o m.ready ps v.queued (λ n. absurd (n refl)) (λ q n. sym (count_other q p ps n) ∙ rw e) (rw ready_live ready_none))
            (waits_put m.pipes p y refl all (λ q. q ≢ p) o no (Touched m p) m.sources m.inlets m.ports m.queues v.waits
            (λ n. absurd (n refl)) (λ i s. clash (cc ready_run)) (λ s. clash (cc ready_run)) (λ q n f. absurd f))
            (quiet_put m.pipes p y refl all (λ q. q ≢ p) o no (OutletOf m.job p) m.ports m.touched m.touched v.quiet (λ x c f. absurd f) (λ q n. refl) (λ n. absurd (n refl)));
        running = record { live = rw g ready_live; state = ap (λ (x : Pipeline). x.state) g ∙ ready_run; unqueued = rw g };
        calm = v.waits.on_io p ready_live tt ∙ rw ready_run;
        is_open = rest_open;
      }
