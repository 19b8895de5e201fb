-- A laid pipeline gets its port: each group over the tables before and after.
use Rattle.std.specs.Prelude.{◌≡◌, ◌≢◌, ◌⊎◌, Bool, false, ◌&&◌, not, List, [], ℕ, suc, ◌<◌, ◌≤◌}
use Rattle.std.proofs.Common.{sym, ◌∙◌, inl, inr, arith}
use Rattle.std.proofs.Math.Option.{Option}
use Rattle.rules.specs.Table.{put}
use Rattle.rules.specs.Job.{Job}
use Rattle.rules.specs.Plan.{Row, root_of}
use Rattle.rules.specs.InletSet.{InletSet}
use Rattle.rules.specs.Port.{Batch, Seen}
use Rattle.rules.specs.Operators.{Source, runnable}
use Rattle.rules.specs.Machine.{Pipeline, Stage, Reader, pipe, Port, Read, Output, place, share_port, slot_places, places, no_pipe, no_port}
use Rattle.rules.specs.Shares.{empty_port}
use Rattle.laws.specs.Table.{by_eq, clash, same, other, put_length}
use Rattle.order.specs.Inv.{Live, There, port_of, pipe_of, state_of, inlets_of, At, bit, Pipes, SlotPort, SharePort, Shares, Flow, Past, Ended, Queued, Idle, Waits, Dirt, Quiet, Packs, Reads, Once, Delivered}
use Rattle.order.specs.State.{all, no}
use Rattle.order.specs.Base.{place_apart}
use Rattle.order.specs.Lowers.{Connected, LowPorts, LowNumbers, laid_count}
use Rattle.order.specs.Tally.{lives_put, sum_change, sum_least}
use Rattle.order.specs.Views.{sames, others, shut_same, shut_other, reader_same, reader_other, state_same, state_other}
use Rattle.order.specs.Add.{queued_as, Taken, Pushed}

module _ (p : ℕ) (low : p < slot_places) (r : Reader) (number : ℕ) (P : List Pipeline) (O : List Port) (Q : List (List Batch)) (gone : (port_of O p).there ≡ false) where
  abbrev pub Pipes' : List Pipeline
  Pipes' = put no_pipe P p (queued_as (pipe_of P p).live number)

  abbrev pub Ports' : List Port
  Ports' = put no_port O p (empty_port r)

  abbrev pub Queues' : List (List Batch)
  Queues' = put [] Q p []

  -- who lives
  pub alike : (q : ℕ) → (pipe_of Pipes' q).live ≡ (pipe_of P q).live
  alike q = by_eq q p (λ e. rw (e, same)) (λ n. rw other)

  down : (q : ℕ) → Live Pipes' q → Live P q
  down q l = sym (alike q) ∙ l

  up : (q : ℕ) → Live P q → Live Pipes' q
  up q l = alike q ∙ l

  -- a port that is there is another one
  apart : (x : ℕ) → There O x → x ≢ p
  apart x t e = clash (cc (gone))

  -- and so is a shared one
  shared_apart : (x : ℕ) → slot_places ≤ x → x ≢ p
  shared_apart x h e = omega arith

  -- what stands at a place does not change
  pub pipes_connect : (j : Job) (A : List (Option ℕ)) (S : List Source) (G : List Stage) (I : List (List ℕ)) → Pipes j A P S G I → Pipes j A Pipes' S G I
  pipes_connect j A S G I w = record {
    bound = λ q l. w.bound q (down q l);
    slots = λ q l. w.slots q (down q l);
    shares = λ q l. w.shares q (down q l);
    stages = λ q l. w.stages q (down q l);
  }

  -- a shared port is as it was
  share_connect : (j : Job) (busy : ℕ → Type 0) (unb : List Bool) (S : List Source) (x : ℕ) → x ≢ p → SharePort j busy unb P S O Q x → SharePort j busy unb Pipes' S Ports' Queues' x
  share_connect j busy unb S x n w = record {
    leaf = w.leaf;
    split = w.split;
    is = w.is;
    below = w.below;
    is_leaf = w.is_leaf;
    pair = w.pair;
    shared = w.shared;
    built = w.built;
    holds = rw other w.holds;
    opens = λ e. let y = w.opens (rw shut_other at e) in (y.0, (up y.0 y.1.0, y.1.1, y.1.2), rw other y.2);
    shuts = λ e q y. w.shuts (rw shut_other at e) q (down q y.0, y.1, y.2);
    full = λ e h. rw other (w.full (rw shut_other at e) (rw reader_other at h));
    unslotted = rw reader_other w.unslotted;
  }

  -- so are all of them
  pub shares_connect : (j : Job) (busy : ℕ → Type 0) (next : ℕ) (unb : List Bool) (S : List Source) → Shares j busy next unb P S O Q → Shares j busy next unb Pipes' S Ports' Queues'
  shares_connect j busy next unb S w = record {
    ports = λ x h t. let n = shared_apart x h in share_connect j busy unb S x n (w.ports x h (rw other at t));
    waits = λ l t a b c d e f. let n : share_port l t ≢ p = λ e. omega arith in simp others (w.waits l t a b c d e f);
    unbuilt = w.unbuilt;
  }

  -- the new port has all rows of its pipeline to come
  pub flow_connect : (j : Job) (A : List (Option ℕ)) (S : List Source) (G : List Stage) (I : List (List ℕ)) (F W : ℕ → List Row) → F p ≡ W p
      → Flow j A P S G I O Q places [] F W → Flow j A Pipes' S G I Ports' Queues' places [] F W
  flow_connect j A S G I F W e w = record {
    port = λ x b. by_eq x p (λ d. rw d (simp sames e)) (λ n. simp others (w.port x b));
    share = λ l t h. let n : share_port l t ≢ p = λ e. omega arith in simp others (w.share l t h);
    pipes = λ q b l n. w.pipes q b (down q l) n;
    mine = λ b. absurd (omega arith);
    ends = λ q b l. w.ends q b (down q l);
    even = λ q i h x y l. w.even q i h x y (down q l);
  }

  -- what has ended at another port
  ended_connect : (x : ℕ) → x ≢ p → Ended O Q x → Ended Ports' Queues' x
  ended_connect x n e = simp others e

  -- and what waits at one
  idle_connect : (x : ℕ) → x ≢ p → Idle O Q x → Idle Ports' Queues' x
  idle_connect x n e = simp others e

  module _ (I : List (List ℕ)) (named : (q i x : ℕ) → Live P q → At (inlets_of I q) i x → There O x) where
    -- inlets that have ended are other ports
    pub past_connect : (S : List Source) (G : List Stage) → Past P S G I O Q → Past Pipes' S G I Ports' Queues'
    past_connect S G w = record {
      before = λ q c i x l e a h. ended_connect x (apart x (named q i x (down q l) a)) (w.before q c i x (down q l) e a h);
      within = λ q c l. w.within q c (down q l);
      all = λ q i x l e a. ended_connect x (apart x (named q i x (down q l) a)) (w.all q i x (down q l) e a);
      emit = λ q l. w.emit q (down q l);
      more = λ q l. w.more q (down q l);
      stage_count = λ q n l. w.stage_count q n (down q l);
      spent = λ q l. w.spent q (down q l);
    }

    -- so are a pack's inlets
    pub packs_connect : (S : List Source) (C W : List InletSet) (E : List (List Seen)) → Packs P S I O Q C W E → Packs Pipes' S I Ports' Queues' C W E
    packs_connect S C W E w = record {
      size = λ q l. w.size q (down q l);
      unique = λ q l. w.unique q (down q l);
      within = λ q i l. w.within q i (down q l);
      known = λ q i l. w.known q i (down q l);
      waits = λ q i x l. w.waits q i x (down q l);
      seen = λ q i x l e a. let n = apart x (named q i x (down q l) a) in simp others (w.seen q i x (down q l) e a);
    }

    -- the pipeline is runnable, the others wait as they did
    pub waits_connect : (S : List Source) → state_of P p ≡ runnable → Waits all no P S I O Q → Waits all no Pipes' S I Ports' Queues'
    waits_connect S calm w = record {
      on_io = λ q l h. by_eq q p (λ e. rw (e, state_same) (w.on_io p (rw e at (down q l)) tt ∙ rw calm)) (λ n. rw state_other (w.on_io q (down q l) tt));
      on_inlet = λ q i l h. by_eq q p (λ e. clash (cc (rw (e, state_same) at h)))
          (λ n. let y = w.on_inlet q i (down q l) (rw state_other at h) in (y.0, y.1, idle_connect y.0 (apart y.0 (named q i y.0 (down q l) y.1)) y.2));
      on_outlet = λ q l h. by_eq q p (λ e. clash (cc (rw (e, state_same) at h)))
          (λ n. let y = w.on_outlet q (down q l) (rw state_other at h) in (y.0, rw other y.1));
    }

  -- a new port has nothing for its slot
  pub dirt_connect : (j : Job) (A : List (Option ℕ)) (dirty : List ℕ) → Dirt j A O Q dirty → Dirt j A Ports' Queues' dirty
  dirt_connect j A dirty w = record {
    clean = λ l s a d. by_eq (place l (root_of j)) p (λ e. rw e (inl (rw same, rw shut_same))) (λ n. idle_connect (place l (root_of j)) n (w.clean l s a d));
    active = w.active;
    differ = w.differ;
  }

  -- nor a mark
  pub quiet_connect : (T : List InletSet) → Quiet all no P O T → Quiet all no Pipes' Ports' T
  quiet_connect T w = record {
    marks = λ x e. by_eq x p (λ d. clash (cc (rw (d, same) at e))) (λ n. w.marks x (rw other at e));
    touches = λ q l. w.touches q (down q l);
    present = λ x e. by_eq x p (λ d. rw (d, same)) (λ n. rw other (w.present x (rw other at e)));
  }

  -- reads and their owners
  pub reads_connect : (j : Job) (S : List Source) (R : List Read) → Reads j P S R → Reads j Pipes' S R
  reads_connect j S R w = record {
    leaf = w.leaf;
    once = w.once;
    owned = λ x q h e. let y = w.owned x q h e in (y.0, up q y.1, y.2, y.3);
    pended = λ q l. w.pended q (down q l);
    unasked = λ q e x b l. w.unasked q e x b (down q l);
    came = λ q e b l. w.came q e b (down q l);
    fresh = λ q e b l. w.fresh q e b (down q l);
  }

  -- sources
  pub once_connect : (j : Job) (next : ℕ) (unb : List Bool) (S : List Source) (R : List Read) → Once j next unb P S R → Once j next unb Pipes' S R
  once_connect j next unb S R w = record {
    single = λ a b l h. w.single a b (down a l) (down b h);
    unread = w.unread;
    unsourced = λ l q a b h. w.unsourced l q a b (down q h);
  }

  -- rows held
  pub delivered_connect : (j : Job) (G : List Stage) (R : List Read) (outs : List Output) → Delivered j P G Q R outs → Delivered j Pipes' G Queues' R outs
  delivered_connect j G R outs w = record {
    queues = λ x. by_eq x p (λ e. rw (e, same) tt) (λ n. rw other (w.queues x));
    outputs = w.outputs;
    stages = λ q l. w.stages q (down q l);
    solid = λ x. by_eq x p (λ e. rw (e, same) tt) (λ n. rw other (w.solid x));
    solid_outs = w.solid_outs;
  }

  -- writers and readers name each other, the new port too
  pub ports_connect : (j : Job) (A : List (Option ℕ)) (k : ℕ) (to to' : ℕ → ℕ → ℕ → Type 0) (I : List (List ℕ)) → Live P p → SlotPort j A Ports' p
      → ((x q h : ℕ) → to x q h → to' x q h) → ((q h : ℕ) → r ≡ pipe q h → to' p q h) → LowPorts j A k to P I O Q → LowPorts j A k to' Pipes' I Ports' Queues'
  ports_connect j A k to to' I alive mine wide names w = record {
    alive = λ q l b c. by_eq q p (λ e. rw e (rw same, rw shut_same)) (λ n. simp others (w.alive q (down q l) b (rw other at c)));
    opens = λ x b t e. by_eq x p (λ d. rw d (up p alive)) (λ n. up x (w.opens x b (rw other at t) (rw shut_other at e)));
    inlets = λ q h x l a. let y = w.inlets q h x (down q l) a in let n = apart x y.0 in simp others y;
    readers = λ x q h t e. by_eq x p
        (λ d. inr (rw d (names q h (rw (d, reader_same) at e))))
        (λ n. widen x q h (w.readers x q h (rw other at t) (rw reader_other at e)));
    slots = λ x b t. by_eq x p (λ d. rw d mine) (λ n. other_slot x n (w.slots x b (rw other at t)));
    roots = λ l s d a. let y = w.roots l s d a in let n = apart (place l (root_of j)) y.0 in simp others y;
    absent = λ x e. by_eq x p (λ d. clash (cc (rw (d, same) at e))) (λ n. rw other (w.absent x (rw other at e)));
    blank = λ x e. by_eq x p (λ d. clash (cc (rw (d, same) at e))) (λ n. rw shut_other (w.blank x (rw other at e)));
  }
    where
      widen : (x q h : ℕ) → (Live P q × At (inlets_of I q) h x) ⊎ to x q h → (Live Pipes' q × At (inlets_of I q) h x) ⊎ to' x q h
      widen x q h (inl y) = inl (up q y.0, y.1)
      widen x q h (inr y) = inr (wide x q h y)

      other_slot : (x : ℕ) → x ≢ p → SlotPort j A O x → SlotPort j A Ports' x
      other_slot x n y = record {
        split = y.split;
        is = y.is;
        node = y.node;
        keep = y.keep;
        read = rw reader_other y.read;
        root = λ e. y.root (rw reader_other at e);
      }

  -- the pipeline is on the ready stack
  pub queued_connect : (k : ℕ) (ready ready' : List ℕ) → Live P p → Pushed p (pipe_of P p).queued ready ready' → Queued (Connected k O) P ready → Queued (Connected k Ports') Pipes' ready'
  queued_connect k ready ready' alive s w = record {
    flags = λ q l c. by_eq q p (λ e. rw (e, same, state_same)) (λ n. simp others (w.flags q (down q l) (rw other at c)));
    counts = λ q. by_eq q p (λ e. rw (e, same, alive) (s.mine (w.counts p ∙ rw alive))) (λ n. s.others q n ∙ rw other (w.counts q));
  }

-- the slot's pipelines that are laid only are one less
module _ (k c : ℕ) (few : c < 24) (r : Reader) (number : ℕ) (P : List Pipeline) (O : List Port) (live : Live P (place k c)) (gone : (port_of O (place k c)).there ≡ false) where
  -- it counts among those laid only
  laid_one : bit ((pipe_of P (place k c)).live && not (port_of O (place k c)).there) ≡ 1
  laid_one = rw (live, gone)

  -- so there is one
  pub laid_some : 1 ≤ laid_count k P O
  laid_some = let s = sum_least (λ n. bit ((pipe_of P (place k n)).live && not (port_of O (place k n)).there)) c 0 24 (omega arith) (omega arith) in omega (arith, s, laid_one)

  abbrev P' : List Pipeline
  P' = put no_pipe P (place k c) (queued_as (pipe_of P (place k c)).live number)

  abbrev O' : List Port
  O' = put no_port O (place k c) (empty_port r)

  -- and then it does not
  laid_less : suc (laid_count k P' O') ≡ laid_count k P O
  laid_less =
      let f : ℕ → ℕ = λ n. bit ((pipe_of P' (place k n)).live && not (port_of O' (place k n)).there) in
      let g : ℕ → ℕ = λ n. bit ((pipe_of P (place k n)).live && not (port_of O (place k n)).there) in
      let s = sum_change f g c 0 24 (omega arith) (omega arith) (λ n d. let a = place_apart k n c d in simp other) in
      let z : f c ≡ 0 = rw (same no_port O (place k c) (empty_port r), same, live) in
      omega (arith, s, z, laid_one)

  -- a number is taken for it
  pub numbers_connect : (freed freed' : List ℕ) (made made' : ℕ) → k < 3 → Taken freed freed' made made' → LowNumbers k P O freed made → LowNumbers k P' O' freed' made'
  numbers_connect freed freed' made made' b t w = record {
    size = put_length no_pipe P (place k c) (queued_as (pipe_of P (place k c)).live number) (let z = w.size in omega arith) ∙ w.size;
    balance =
        let l = lives_put P (place k c) (queued_as (pipe_of P (place k c)).live number) in
        let a = laid_less in
        omega (arith, l, a, t.one, w.balance);
    few = t.few w.few;
  }
