-- What of the invariant depends on a pipeline only by whether it is in use, and on a port only by whether it is there, its reader and
-- whether it is closed.
use Rattle.std.specs.Prelude.{◌≡◌, refl, ◌⊎◌, Bool, true, false, List, [], ℕ, ◌<◌, length}
use Rattle.std.proofs.Common.{sym, ◌∙◌, inl, inr}
use Rattle.std.proofs.Math.Option.{Option}
use Rattle.rules.specs.Table.{get, put, has}
use Rattle.rules.specs.Job.{Job}
use Rattle.rules.specs.Plan.{Row, is_leaf}
use Rattle.rules.specs.InletSet.{InletSet}
use Rattle.rules.specs.Port.{Batch, Seen, waiting}
use Rattle.rules.specs.Operators.{Source, pack}
use Rattle.rules.specs.Machine.{Pipeline, Stage, Port, Read, Output, no_pipe, no_port, share_port, slot_at_place, slot_places}
use Rattle.laws.specs.Table.{by_eq, same, other}
use Rattle.order.specs.Inv.{Live, There, shut, port_of, reader_of, pipe_of, source_of, inlets_of, queue_of, At, Pipes, Ports, SlotPort, Shares, SharePort, Sources, emitted, Before, Flow, Past, Ended, Packs, shows_at, Reads, Once, Delivered, pend, will, pieces_in, split_in, stage_of}

-- as many pipelines in use, at the same places
abbrev pub Alike : List Pipeline → List Pipeline → Type 0
Alike P P' = (p : ℕ) → (pipe_of P' p).live ≡ (pipe_of P p).live

-- a port but for its mark
pub record Port-alike (a b : Port) : Type 0 where
  pub there : b.there ≡ a.there
  pub closed : b.closed ≡ a.closed
  pub reader : b.reader ≡ a.reader

-- every port but for its mark
abbrev pub Ports-alike : List Port → List Port → Type 0
Ports-alike O O' = (x : ℕ) → Port-alike (port_of O x) (port_of O' x)

-- nothing has changed
pub port_refl : (a : Port) → Port-alike a a
port_refl a = record { there = refl; closed = refl; reader = refl }

pub ports_refl : (O : List Port) → Ports-alike O O
ports_refl O x = port_refl (port_of O x)

-- one entry that stays in use, or as it was
pub alike_put : (P : List Pipeline) (p : ℕ) (v : Pipeline) → v.live ≡ (pipe_of P p).live → Alike P (put no_pipe P p v)
alike_put P p v e q = by_eq q p (λ i. rw (i, same) e) (λ n. rw other)

pub ports_put : (O : List Port) (x : ℕ) (v : Port) → Port-alike (port_of O x) v → Ports-alike O (put no_port O x v)
ports_put O x v e y = by_eq y x (λ i. rw (i, same) e) (λ n. rw other (port_refl (port_of O y)))

-- Pipelines fewer, or the same ones

module _ (j : Job) (P P' : List Pipeline) (down : (p : ℕ) → Live P' p → Live P p) where
  -- what stands at a place
  pub pipes_down : (A : List (Option ℕ)) (S : List Source) (G : List Stage) (I : List (List ℕ)) → Pipes j A P S G I → Pipes j A P' S G I
  pipes_down A S G I v = record {
    bound = λ p l. v.bound p (down p l);
    slots = λ p l. v.slots p (down p l);
    shares = λ p l. v.shares p (down p l);
    stages = λ p l. v.stages p (down p l);
  }

  -- one source of a segment
  pub once_down : (next : ℕ) (unb : List Bool) (S : List Source) (R : List Read) → Once j next unb P S R → Once j next unb P' S R
  once_down next unb S R v = record {
    single = λ p q l k. v.single p q (down p l) (down q k);
    unread = v.unread;
    unsourced = λ l p a c k. v.unsourced l p a c (down p k);
  }

  -- reads: who waits for one is still in use
  pub reads_down : (S : List Source) (R : List Read) → ((p : ℕ) → Live P p → pend (source_of S p) ≡ true → Live P' p) → Reads j P S R → Reads j P' S R
  reads_down S R up v = record {
    leaf = v.leaf;
    once = v.once;
    owned = λ r p h d. let o = v.owned r p h d in (o.0, up p o.1 o.2, o.2, o.3);
    pended = λ p l. v.pended p (down p l);
    unasked = λ p e r b l. v.unasked p e r b (down p l);
    came = λ p e b l. v.came p e b (down p l);
    fresh = λ p e b l. v.fresh p e b (down p l);
  }

  module _ (O O' : List Port) (Q Q' : List (List Batch)) (I : List (List ℕ))
      (alike : (p i x : ℕ) → Live P' p → At (inlets_of I p) i x → (shut O' x ≡ shut O x) × (queue_of Q' x ≡ queue_of Q x)) where
    ended_down : (p i x : ℕ) → Live P' p → At (inlets_of I p) i x → Ended O Q x → Ended O' Q' x
    ended_down p i x l a e = let b = alike p i x l a in (b.0 ∙ e.0, b.1 ∙ e.1)

    pub past_down : (S : List Source) (G : List Stage) → Past P S G I O Q → Past P' S G I O' Q'
    past_down S G v = record {
      before = λ p c i x l s a h. ended_down p i x l a (v.before p c i x (down p l) s a h);
      within = λ p c l. v.within p c (down p l);
      all = λ p i x l g a. ended_down p i x l a (v.all p i x (down p l) g a);
      emit = λ p l. v.emit p (down p l);
      more = λ p l. v.more p (down p l);
      stage_count = λ p n l. v.stage_count p n (down p l);
      spent = λ p l. v.spent p (down p l);
    }

    pub packs_down : (S : List Source) (C C' W : List InletSet) (E : List (List Seen)) → Packs P S I O Q C W E
        → ((p i x : ℕ) → Live P' p → At (inlets_of I p) i x → has i (get [] C p) ≡ true → has i (get [] C' p) ≡ true)
        → ((p i x : ℕ) → Live P' p → At (inlets_of I p) i x → (port_of O x).changed ≡ true → (has i (get [] C' p) ≡ true) ⊎ ((port_of O' x).changed ≡ true))
        → ((p i : ℕ) → Live P' p → source_of S p ≡ pack → has i (get [] C' p) ≡ true → i < length (inlets_of I p))
        → Packs P' S I O' Q' C' W E
    packs_down S C C' W E v c h k = record {
      unique = λ p l. v.unique p (down p l);
      within = λ p i l. v.within p i (down p l);
      known = k;
      size = λ p l. v.size p (down p l);
      waits = λ p i x l. v.waits p i x (down p l);
      seen = λ p i x l s a. after p i x l a (v.seen p i x (down p l) s a);
    }
      where
        after : (p i x : ℕ) → Live P' p → At (inlets_of I p) i x
            → (has i (get [] C p) ≡ true) ⊎ (get waiting (get [] E p) i ≡ shows_at O Q x) ⊎ ((port_of O x).changed ≡ true)
            → (has i (get [] C' p) ≡ true) ⊎ (get waiting (get [] E p) i ≡ shows_at O' Q' x) ⊎ ((port_of O' x).changed ≡ true)
        after p i x l a (inl e) = inl (c p i x l a e)
        after p i x l a (inr (inl e)) = inr (inl (let b = alike p i x l a in rw (b.0, b.1) e))
        after p i x l a (inr (inr e)) = marked (h p i x l a e)
          where
            marked : (has i (get [] C' p) ≡ true) ⊎ ((port_of O' x).changed ≡ true)
                → (has i (get [] C' p) ≡ true) ⊎ (get waiting (get [] E p) i ≡ shows_at O' Q' x) ⊎ ((port_of O' x).changed ≡ true)
            marked (inl d) = inl d
            marked (inr d) = inr (inr d)

  -- a shared port
  pub share_port_lem : (busy busy' : ℕ → Type 0) (unb : List Bool) (S : List Source) (O O' : List Port) (Q Q' : List (List Batch)) (x : ℕ)
      → shut O' x ≡ shut O x → reader_of O' x ≡ reader_of O x → queue_of Q' x ≡ queue_of Q x
      → ((l t p : ℕ) → x ≡ share_port l t → is_leaf j l ≡ true → t < length j.splits → shut O x ≡ false → Sources j P l p → Live P' p × (busy p → emitted (source_of S p) ≡ 1 → busy' p))
      → ((l t p : ℕ) → x ≡ share_port l t → is_leaf j l ≡ true → t < length j.splits → shut O x ≡ true → Sources j P' l p → busy p → busy' p)
      → SharePort j busy unb P S O Q x → SharePort j busy' unb P' S O' Q' x
  share_port_lem busy busy' unb S O O' Q Q' x c r q f g v = record {
    leaf = v.leaf;
    split = v.split;
    is = v.is;
    below = v.below;
    is_leaf = v.is_leaf;
    pair = v.pair;
    shared = v.shared;
    built = v.built;
    holds = rw q v.holds;
    opens = λ e. let d : shut O x ≡ false = sym c ∙ e in
        let o = v.opens d in
        let u = f v.leaf v.split o.0 v.is v.is_leaf v.below d o.1 in
        (o.0, (u.0, o.1.1, o.1.2), rw q (before o.0 u.1 o.2));
    shuts = λ e p s. let d : shut O x ≡ true = sym c ∙ e in
        g v.leaf v.split p v.is v.is_leaf v.below d s (v.shuts d p (down p s.0, s.1, s.2));
    full = λ e i. rw q (v.full (sym c ∙ e) (sym r ∙ i));
    unslotted = λ e. v.unslotted (sym r ∙ e);
  }
    where
      before : (p : ℕ) → (busy p → emitted (source_of S p) ≡ 1 → busy' p) → Before busy j v.leaf p (source_of S p) (queue_of Q x) → Before busy' j v.leaf p (source_of S p) (queue_of Q x)
      before p h (inl e) = inl e
      before p h (inr e) = inr (h e.0 e.1, e.1, e.2)

-- Pipelines the same, ports but for marks

module _ (j : Job) (P P' : List Pipeline) (O O' : List Port) (L : Alike P P') (K : Ports-alike O O') where
  -- in use afterwards and before
  pub down : (p : ℕ) → Live P' p → Live P p
  down p l = sym (L p) ∙ l

  pub up : (p : ℕ) → Live P p → Live P' p
  up p l = L p ∙ l

  -- there before and afterwards
  there_up : (x : ℕ) → There O x → There O' x
  there_up x e = (K x).there ∙ e

  there_down : (x : ℕ) → There O' x → There O x
  there_down x e = sym (K x).there ∙ e

  -- ports and their writers and readers
  pub ports_alike : (A : List (Option ℕ)) («open» open' : ℕ → Type 0) (I : List (List ℕ)) (Q : List (List Batch)) → ((p : ℕ) → Live P p → open' p → «open» p)
      → Ports j A «open» P I O Q → Ports j A open' P' I O' Q
  ports_alike A «open» open' I Q f v = record {
    alive = λ p l h w. let a = v.alive p (down p l) h (f p (down p l) w) in (there_up p a.0, (K p).closed ∙ a.1);
    opens = λ x h t e. up x (v.opens x h (there_down x t) (sym (K x).closed ∙ e));
    inlets = λ p i x l a. let b = v.inlets p i x (down p l) a in (there_up x b.0, (K x).reader ∙ b.1);
    readers = λ x p i t e. let b = v.readers x p i (there_down x t) (sym (K x).reader ∙ e) in (up p b.0, b.1);
    slots = λ x h t. let s : SlotPort j A O x = v.slots x h (there_down x t) in
        record { split = s.split; is = s.is; node = s.node; keep = s.keep; read = λ e. s.read (sym (K x).reader ∙ e); root = λ e. s.root (sym (K x).reader ∙ e) };
    roots = λ k s e. let b = v.roots k s e in (there_up _ b.0, (K _).reader ∙ b.1);
    absent = λ x e. v.absent x (sym (K x).there ∙ e);
    blank = λ x e. (K x).closed ∙ v.blank x (sym (K x).there ∙ e);
  }

  -- shared ports; a source is not busy any more where it need not be
  pub shares_alike : (busy busy' : ℕ → Type 0) (next : ℕ) (unb : List Bool) (S : List Source) (Q : List (List Batch))
      → ((x l t p : ℕ) → There O x → x ≡ share_port l t → is_leaf j l ≡ true → t < length j.splits → Sources j P l p → busy p → (shut O x ≡ true) ⊎ (emitted (source_of S p) ≡ 1) → busy' p)
      → Shares j busy next unb P S O Q → Shares j busy' next unb P' S O' Q
  shares_alike busy busy' next unb S Q f v = record {
    ports = λ x h t. let t' : There O x = there_down x t in share_port_lem j P P' down busy busy' unb S O O' Q Q x (K x).closed (K x).reader refl
        (λ l s p i a b c u. (up p u.0, λ d e. f x l s p t' i a b u d (inr e))) (λ l s p i a b c u d. f x l s p t' i a b (down p u.0, u.1, u.2) d (inl c)) (v.ports x h t');
    waits = λ l t a b c h k o. let w = v.waits l t a b c h k o in (there_up _ w.0, (K _).reader ∙ w.1);
    unbuilt = v.unbuilt;
  }

  -- with an empty hand it does not matter who runs
  pub flow_alike : (A : List (Option ℕ)) (S : List Source) (G : List Stage) (I : List (List ℕ)) (Q : List (List Batch)) (me me' : ℕ) (F W : ℕ → List Row)
      → Flow j A P S G I O Q me [] F W → Flow j A P' S G I O' Q me' [] F W
  flow_alike A S G I Q me me' F W v = record {
    port = λ x h. rw (K x).closed (v.port x h);
    share = λ l t h. rw (K (share_port l t)).closed (v.share l t h);
    pipes = λ p h l n. each p h (down p l);
    mine = λ h l. each me' h (down me' l);
    ends = λ p h l. v.ends p h (down p l);
    even = λ p i h x y l. v.even p i h x y (down p l);
  }
    where
      each : (p : ℕ) → p < slot_places → Live P p → W p ≡ will F (pieces_in j p (split_in A (slot_at_place p))) (source_of S p) (stage_of G p) (inlets_of I p)
      each p h l = by_eq p me (λ e. rw e (v.mine (rw e at h) (rw e at l))) (λ n. v.pipes p h l n)

  -- rows held name delivered segments
  pub delivered_alike : (G : List Stage) (Q : List (List Batch)) (R : List Read) (outs : List Output) → Delivered j P G Q R outs → Delivered j P' G Q R outs
  delivered_alike G Q R outs v = record { queues = v.queues; outputs = v.outputs; stages = λ p l. v.stages p (down p l); solid = v.solid; solid_outs = v.solid_outs }
