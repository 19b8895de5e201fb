-- A delivery: the read is marked, and the source that waits for it has its bytes and is made runnable.
use Rattle.std.specs.Prelude.{◌≡◌, refl, ◌≢◌, ◌⊎◌, Bool, ◌||◌, List, [], ◌∷◌, ◌++◌, map, ℕ, zero, suc, ◌<◌, length, eqb, leb}
use Rattle.std.proofs.Math.Path.{sym, ap}
use Rattle.std.proofs.Common.{◌∙◌, arith}
use Rattle.std.proofs.Math.Logic.{inl, inr}
use Rattle.std.proofs.Math.Bool.{true, false}
use Rattle.std.proofs.Math.Option.{Option, none, some}
use borrow.Author.Tests.{eqb-true, eqb-false, leb-false, lt-leb}
use Rattle.rules.specs.Table.{get, put}
use Rattle.rules.specs.Job.{Kind, segment as aSegment, concat as aConcat, pack as aPack, Job}
use Rattle.rules.specs.Plan.{Piece, Cell, Row, node_of, first_leaf}
use Rattle.rules.specs.InletSet.{InletSet}
use Rattle.rules.specs.Port.{Batch, Seen}
use Rattle.rules.specs.Operators.{Source, segment, concat, pack}
use Rattle.rules.specs.Machine.{Machine, Pipeline, Stage, Port, Read, Output, no_read, no_source, pipe_at, source_at, node_at_place, slot_at_place, places, set_source, with_reads}
use Rattle.rules.specs.Wake.{make_runnable, enqueue}
use Rattle.rules.specs.Scan.{Answer, says, refuses, Delivered as IsDelivered, bring, brought, delivered, faulted, delivering}
use Rattle.laws.specs.Table.{by_bool, by_eq, by_option, clash, same, other, put_length, or_left, or_right}
use Rattle.order.specs.Inv.{Live, source_of, stage_of, inlets_of, split_in, segment_of, pieces_in, queue_of, read_at, Form, SharePort, Pipes, Shares, Flow, Past, Waits, Packs, Reads, Once, Delivered, Came, AllCame, Brought, pend, will, emitted, is_source}
use Rattle.order.specs.State.{Inv, Rests, all, no}
use Rattle.order.specs.Runnable.{runnable_ok}

-- Tables read with another default, within their length

module _ {A : Type 0} (d e : A) where
  pub same_in : (l : List A) (i : ℕ) (v : A) → i < length l → get e (put d l i v) i ≡ v
  same_in [] i v h = absurd (omega arith)
  same_in (x ∷ l) zero v h = refl
  same_in (x ∷ l) (suc i) v h = same_in l i v (omega arith)

  pub other_in : (l : List A) (i k : ℕ) (v : A) → i < length l → k ≢ i → get e (put d l i v) k ≡ get e l k
  other_in [] i k v h n = absurd (omega arith)
  other_in (x ∷ l) zero zero v h n = absurd (n refl)
  other_in (x ∷ l) zero (suc k) v h n = refl
  other_in (x ∷ l) (suc i) zero v h n = refl
  other_in (x ∷ l) (suc i) (suc k) v h n = other_in l i k v (omega arith) (λ q. n (ap suc q))

  pub default_in : (l : List A) (i : ℕ) → i < length l → get d l i ≡ get e l i
  default_in [] i h = absurd (omega arith)
  default_in (x ∷ l) zero h = refl
  default_in (x ∷ l) (suc i) h = default_in l i (omega arith)

-- A read that nobody waits for comes: it is marked, and nothing else

module _ (j : Job) (P : List Pipeline) (S : List Source) (R : List Read) (r : ℕ) (h : r < length R) (o : (read_at R r).owner ≡ none) where
  abbrev lost_came : Read
  lost_came = record { leaf = (read_at R r).leaf; owner = none; delivered = true }

  abbrev lost : List Read
  lost = put no_read R r lost_came

  lost_here : read_at lost r ≡ lost_came
  lost_here = same_in no_read (record { leaf = 0; owner = none; delivered = true }) R r lost_came h

  lost_other : (q : ℕ) → q ≢ r → read_at lost q ≡ read_at R q
  lost_other q n = other_in no_read (record { leaf = 0; owner = none; delivered = true }) R r q lost_came h n

  lost_leaf : (q : ℕ) → (read_at lost q).leaf ≡ (read_at R q).leaf
  lost_leaf q = by_eq q r (λ e. rw (e, lost_here)) (λ n. ap (λ (x : Read). x.leaf) (lost_other q n))

  lost_owner : (q : ℕ) → (read_at lost q).owner ≡ (read_at R q).owner
  lost_owner q = by_eq q r (λ e. rw (e, lost_here) (sym o)) (λ n. ap (λ (x : Read). x.owner) (lost_other q n))

  lost_length : length lost ≡ length R
  lost_length = put_length no_read R r lost_came h

  lost_delivered : (q : ℕ) → (read_at R q).delivered ≡ true → (read_at lost q).delivered ≡ true
  lost_delivered q e = by_eq q r (λ i. rw (i, lost_here)) (λ n. ap (λ (x : Read). x.delivered) (lost_other q n) ∙ e)

  lost_reads : Reads j P S R → Reads j P S lost
  lost_reads v = record {
    leaf = λ q g. rw (lost_leaf q) (v.leaf q (rw lost_length at g));
    once = λ q i g k e. v.once q i (rw lost_length at g) (rw lost_length at k) (sym (lost_leaf q) ∙ e ∙ lost_leaf i);
    owned = λ q i g e.
        let n : q ≢ r = λ k. clash (cc (o, sym (lost_owner r), rw k at e)) in
        let u = v.owned q i (rw lost_length at g) (sym (lost_owner q) ∙ e) in
        (ap (λ (x : Read). x.delivered) (lost_other q n) ∙ u.0, u.1, u.2, u.3 ∙ sym (lost_leaf q));
    pended = λ q l e.
        let u = v.pended q l e in
        let n : u.0 ≢ r = λ i. clash (cc (o, rw i at u.3)) in
        (u.0, rw lost_length u.1, ap (λ (x : Read). x.delivered) (lost_other u.0 n) ∙ u.2, lost_owner u.0 ∙ u.3);
    unasked = λ q e i b l s g. rw (lost_leaf i) (v.unasked q e i b l s (rw lost_length at g));
    came = λ q e b l s g. let u = v.came q e b l s g in (u.0, rw lost_length u.1, lost_delivered u.0 u.2, lost_leaf u.0 ∙ u.3);
    fresh = v.fresh;
  }

  lost_once : (next : ℕ) (unb : List Bool) → Once j next unb P S R → Once j next unb P S lost
  lost_once next unb v = record {
    single = v.single;
    unread = λ l q a c g. rw (lost_leaf q) (v.unread l q a c (rw lost_length at g));
    unsourced =
        v.unsourced;
  }

  lost_still : (g : ℕ) → Came j R g → Came j lost g
  lost_still g c = (c.0, rw lost_length c.1, lost_delivered c.0 c.2, rw (lost_leaf c.0) c.3)

  lost_cells : (cs : List Cell) → AllCame j R cs → AllCame j lost cs
  lost_cells [] v = tt
  lost_cells (c ∷ cs) v = (lost_still c.segment v.0, lost_cells cs v.1)

  lost_batches : (bs : List Batch) → Brought j R bs → Brought j lost bs
  lost_batches [] v = tt
  lost_batches (b ∷ bs) v = (lost_cells b.cells v.0, lost_batches bs v.1)

  lost_all : (G : List Stage) (Q : List (List Batch)) (outs : List Output) → Delivered j P G Q R outs → Delivered j P G Q lost outs
  lost_all G Q outs v = record {
    queues = λ x. lost_batches (queue_of Q x) (v.queues x);
    outputs = lost_batches (map (λ (o : Output). o.batch) outs) v.outputs;
    stages = λ q l e. lost_still (segment_of j q) (v.stages q l e);
    solid = v.solid;
    solid_outs = v.solid_outs;
  }

-- A source that has its bytes

waiting_is : (s : Source) → pend s ≡ true → s ≡ segment true false 0
waiting_is (segment true false zero) e = refl
waiting_is (segment true false (suc n)) e = clash (cc)
waiting_is (segment true true n) e = clash (cc)
waiting_is (segment false b n) e = clash (cc)
waiting_is (concat i) e = clash (cc)
waiting_is pack e = clash (cc)

form_segment : (j : Job) (p s : ℕ) (k : Kind) (a b c d : Bool) (e f : ℕ) (st : Stage) (xs : List ℕ) → Form j p s k (segment a b e) st xs → Form j p s k (segment c d f) st xs
form_segment j p s aSegment a b c d e f st xs v = v
form_segment j p s aConcat a b c d e f st xs v = v
form_segment j p s aPack a b c d e f st xs v = v

module _ (j : Job) (P : List Pipeline) (S : List Source) (p : ℕ) (w : source_of S p ≡ segment true false 0) where
  abbrev fed : List Source
  fed = put no_source S p (segment true true 0)

  -- what is known of every source
  fed_emitted : (q : ℕ) → emitted (source_of fed q) ≡ emitted (source_of S q)
  fed_emitted q = by_eq q p (λ e. rw (e, same, w)) (λ n. rw other)

  fed_source : (q : ℕ) → is_source (source_of fed q) ≡ is_source (source_of S q)
  fed_source q = by_eq q p (λ e. rw (e, same, w)) (λ n. rw other)

  fed_will : (F : ℕ → List Row) (ps : List Piece) (st : Stage) (xs : List ℕ) (q : ℕ) → will F ps (source_of fed q) st xs ≡ will F ps (source_of S q) st xs
  fed_will F ps st xs q = by_eq q p (λ e. rw (e, same, w)) (λ n. rw other)

  fed_pack : (q : ℕ) → source_of fed q ≡ pack → source_of S q ≡ pack
  fed_pack q e = by_eq q p (λ i. clash (cc (sym (same no_source S p (segment true true 0))))) (λ n. rw other at e)

  fed_concat : (q c : ℕ) → source_of fed q ≡ concat c → source_of S q ≡ concat c
  fed_concat q c e = by_eq q p (λ i. clash (cc (sym (same no_source S p (segment true true 0))))) (λ n. rw other at e)

  fed_form : (q s : ℕ) (k : Kind) (st : Stage) (xs : List ℕ) → q ≡ p → Form j q s k (source_of S q) st xs → Form j q s k (source_of fed q) st xs
  fed_form q s k st xs i v =
      let a : source_of S q ≡ segment true false 0 = ap (source_of S) i ∙ w in
      let b : source_of fed q ≡ segment true true 0 = ap (source_of fed) i ∙ same no_source S p (segment true true 0) in
      rw b (form_segment j q s k true false true true 0 0 st xs (rw a at v))

  fed_pipes : (A : List (Option ℕ)) (G : List Stage) (I : List (List ℕ)) → Pipes j A P S G I → Pipes j A P fed G I
  fed_pipes A G I v = record {
    bound = v.bound;
    slots = λ q l h. by_eq q p
        (λ i. let s = v.slots q l h in record { split = s.split; is = s.is; node = s.node; keep = s.keep; form = fed_form q s.split (node_of j (node_at_place q)).kind (stage_of G q) (inlets_of I q) i s.form })
        (λ n. rw other (v.slots q l h));
    shares = λ q l h. let s = v.shares q l h in record { leaf = s.leaf; source = fed_source q ∙ s.source; none_in = s.none_in; uncut = s.uncut };
    stages = v.stages;
  }

  fed_share : (busy : ℕ → Type 0) (unb : List Bool) (O : List Port) (Q : List (List Batch)) (x : ℕ) → SharePort j busy unb P S O Q x → SharePort j busy unb P fed O Q x
  fed_share busy unb O Q x v = record {
    leaf = v.leaf;
    split = v.split;
    is = v.is;
    below = v.below;
    is_leaf = v.is_leaf;
    pair = v.pair;
    shared = v.shared;
    built = v.built;
    holds = v.holds;
    opens = λ e. let o = v.opens e in (o.0, o.1, rw (fed_emitted o.0) o.2);
    shuts = v.shuts;
    full = v.full;
    unslotted = v.unslotted;
  }

  fed_shares : (busy : ℕ → Type 0) (next : ℕ) (unb : List Bool) (O : List Port) (Q : List (List Batch)) → Shares j busy next unb P S O Q → Shares j busy next unb P fed O Q
  fed_shares busy next unb O Q v = record { ports = λ x h t. fed_share busy unb O Q x (v.ports x h t); waits = v.waits; unbuilt = v.unbuilt }

  fed_flow : (A : List (Option ℕ)) (G : List Stage) (I : List (List ℕ)) (O : List Port) (Q : List (List Batch)) (me : ℕ) (hand : List Row) (F W : ℕ → List Row)
      → Flow j A P S G I O Q me hand F W → Flow j A P fed G I O Q me hand F W
  fed_flow A G I O Q me hand F W v = record {
    port = v.port;
    share = v.share;
    pipes = λ q h l n. v.pipes q h l n ∙ sym (fed_will F (pieces_in j q (split_in A (slot_at_place q))) (stage_of G q) (inlets_of I q) q);
    mine = λ h l. v.mine h l ∙ ap (λ rows. hand ++ rows) (sym (fed_will F (pieces_in j me (split_in A (slot_at_place me))) (stage_of G me) (inlets_of I me) me));
    ends = v.ends;
    even = λ q i h x y l e. v.even q i h x y l (fed_pack q e);
  }

  fed_past : (G : List Stage) (I : List (List ℕ)) (O : List Port) (Q : List (List Batch)) → Past P S G I O Q → Past P fed G I O Q
  fed_past G I O Q v = record {
    before = λ q c i x l e. v.before q c i x l (fed_concat q c e);
    within = λ q c l e. v.within q c l (fed_concat q c e);
    all = v.all;
    emit = v.emit;
    more = λ q l e. rw (fed_source q, fed_emitted q) (v.more q l e);
    stage_count = v.stage_count;
    spent = λ q l e h. rw (fed_emitted q) (v.spent q l e (sym (fed_source q) ∙ h));
  }

  fed_waits : (freed : ℕ → Type 0) (I : List (List ℕ)) (O : List Port) (Q : List (List Batch)) → Waits all freed P S I O Q → Waits (λ q. q ≢ p) freed P fed I O Q
  fed_waits freed I O Q v = record { on_io = λ q l n. rw other (v.on_io q l tt); on_inlet = v.on_inlet; on_outlet = v.on_outlet }

  fed_packs : (I : List (List ℕ)) (O : List Port) (Q : List (List Batch)) (C W : List InletSet) (E : List (List Seen)) → Packs P S I O Q C W E → Packs P fed I O Q C W E
  fed_packs I O Q C W E v = record {
    size = λ q l e. v.size q l (fed_pack q e);
    unique = λ q l e. v.unique q l (fed_pack q e);
    within = λ q i l e. v.within q i l (fed_pack q e);
    known = λ q i l e. v.known q i l (fed_pack q e);
    waits = λ q i x l e. v.waits q i x l (fed_pack q e);
    seen = λ q i x l e. v.seen q i x l (fed_pack q e);
  }

  -- Reads: that of the source has come
  module _ (R : List Read) (r : ℕ) (h : r < length R) (d : (read_at R r).delivered ≡ false) (o : (read_at R r).owner ≡ some p) (f : first_leaf j (node_at_place p) ≡ (read_at R r).leaf) where
    abbrev came : Read
    came = record { leaf = (read_at R r).leaf; owner = none; delivered = true }

    abbrev read : List Read
    read = put no_read R r came

    at_read : read_at read r ≡ came
    at_read = same_in no_read (record { leaf = 0; owner = none; delivered = true }) R r came h

    at_other : (q : ℕ) → q ≢ r → read_at read q ≡ read_at R q
    at_other q n = other_in no_read (record { leaf = 0; owner = none; delivered = true }) R r q came h n

    pub leaf_same : (q : ℕ) → (read_at read q).leaf ≡ (read_at R q).leaf
    leaf_same q = by_eq q r (λ e. rw (e, at_read)) (λ n. ap (λ (x : Read). x.leaf) (at_other q n))

    len : length read ≡ length R
    len = put_length no_read R r came h

    came_delivered : (q : ℕ) → (read_at R q).delivered ≡ true → (read_at read q).delivered ≡ true
    came_delivered q e = by_eq q r (λ i. rw (i, at_read)) (λ n. ap (λ (x : Read). x.delivered) (at_other q n) ∙ e)

    fed_reads : Reads j P S R → Reads j P fed read
    fed_reads v = record {
      leaf = λ q g. rw (leaf_same q) (v.leaf q (rw len at g));
      once = λ q i g k e. v.once q i (rw len at g) (rw len at k) (sym (leaf_same q) ∙ e ∙ leaf_same i);
      owned = λ q i g e.
          let n : q ≢ r = λ k. let t : (read_at read r).owner ≡ some i = rw k at e in clash (cc (ap (λ (x : Read). x.owner) at_read)) in
          let b : q < length R = rw len at g in
          let u = v.owned q i b (sym (ap (λ (x : Read). x.owner) (at_other q n)) ∙ e) in
          let k : i ≢ p = λ y. n (v.once q r b h (sym u.3 ∙ ap (λ x. first_leaf j (node_at_place x)) y ∙ f)) in (
            ap (λ (x : Read). x.delivered) (at_other q n) ∙ u.0,
            u.1,
            ap pend (other no_source S p i (segment true true 0) k) ∙ u.2,
            u.3
                ∙ sym (leaf_same q),
          );
      pended = λ q l e.
          let n : q ≢ p = λ i. clash (cc (same no_source S p (segment true true 0))) in
          let u = v.pended q l (rw (other no_source S p q (segment true true 0) n) at e) in
          let k : u.0 ≢ r = λ i. n (cc u.3) in
          (u.0, rw len u.1, ap (λ (x : Read). x.delivered) (at_other u.0 k) ∙ u.2, ap (λ (x : Read). x.owner) (at_other u.0 k) ∙ u.3);
      unasked = λ q e i b l s g. let n : q ≢ p = λ k. clash (cc (same no_source S p (segment true true 0))) in
          rw (leaf_same i) (v.unasked q e i b l (rw other at s) (rw len at g));
      came = λ q e b l s g. by_eq q p
          (λ i. (r, rw len h, rw at_read, leaf_same r ∙ sym f ∙ rw i))
          (λ n. let u = v.came q e b l (rw other at s) (rw other at g) in (u.0, rw len u.1, came_delivered u.0 u.2, leaf_same u.0 ∙ u.3));
      fresh = λ q e b l s. let n : q ≢ p = λ k. clash (cc (same no_source S p (segment true true 0))) in v.fresh q e b l (rw other at s);
    }

    fed_once : (next : ℕ) (unb : List Bool) → Once j next unb P S R → Once j next unb P fed read
    fed_once next unb v = record {
      single = λ q i l k a b. v.single q i l k (sym (fed_source q) ∙ a) (sym (fed_source i) ∙ b);
      unread = λ l q a c g. rw (leaf_same q) (v.unread l q a c (rw len at g));
      unsourced = λ l q a c k e. v.unsourced l q a c k (sym (fed_source q) ∙ e);
    }

    -- what had come has come
    still_came : (g : ℕ) → Came j R g → Came j read g
    still_came g c = (c.0, rw len c.1, came_delivered c.0 c.2, rw (leaf_same c.0) c.3)

    cells_came : (cs : List Cell) → AllCame j R cs → AllCame j read cs
    cells_came [] v = tt
    cells_came (c ∷ cs) v = (still_came c.segment v.0, cells_came cs v.1)

    batches_came : (bs : List Batch) → Brought j R bs → Brought j read bs
    batches_came [] v = tt
    batches_came (b ∷ bs) v = (cells_came b.cells v.0, batches_came bs v.1)

    fed_delivered : (G : List Stage) (Q : List (List Batch)) (outs : List Output) → Delivered j P G Q R outs → Delivered j P G Q read outs
    fed_delivered G Q outs v = record {
      queues = λ x. batches_came (queue_of Q x) (v.queues x);
      outputs = batches_came (map (λ (o : Output). o.batch) outs) v.outputs;
      stages = λ q l e. still_came (segment_of j q) (v.stages q l e);
      solid = v.solid;
      solid_outs = v.solid_outs;
    }

-- what a made runnable pipeline leaves as it was
pub runnable_keeps : (p : ℕ) (m : Machine) → ((make_runnable p m).job ≡ m.job) × ((make_runnable p m).reads ≡ m.reads)
    × ((make_runnable p m).outputs ≡ m.outputs) × ((make_runnable p m).news ≡ m.news)
unfolding make_runnable
runnable_keeps p m = by_bool (pipe_at m p).queued (λ e. rw (e, make_runnable) (refl, refl, refl, refl))
    (λ e. by_bool (leb places (length m.ready)) (λ d. rw (e, make_runnable, d, enqueue) (refl, refl, refl, refl))
    (λ d. rw (e, make_runnable, d, enqueue) (refl, refl, refl, refl)))

pub bring_keeps : (o : Option ℕ) (m : Machine) → ((bring o m).job ≡ m.job) × ((bring o m).reads ≡ m.reads) × ((bring o m).outputs ≡ m.outputs)
    × ((bring o m).news ≡ m.news)
unfolding bring
bring_keeps none m = (refl, refl, refl, refl)
bring_keeps (some p) m = runnable_keeps p (set_source p (brought (source_at m p)) m)

-- the reads, one of them delivered
abbrev pub arrived : ℕ → List Read → List Read
arrived r R = put no_read R r (record { leaf = (get no_read R r).leaf; owner = none; delivered = true })

module _ (out : ℕ → List Row) (told : ℕ) (m : Machine) (v : Rests out told m) where
  -- the source at p has its bytes
  fed_ok : (p r : ℕ) → r < length m.reads → (read_at m.reads r).delivered ≡ false → (read_at m.reads r).owner ≡ some p → Live m.pipes p
      → pend (source_of m.sources p) ≡ true → first_leaf m.job (node_at_place p) ≡ (read_at m.reads r).leaf
      → Inv places [] (λ q. q ≢ p) all no no no out told
      (set_source p (segment true true 0) (with_reads (put no_read m.reads r (record { leaf = (read_at m.reads r).leaf; owner = none; delivered = true })) m))
  fed_ok p r h d o l e f =
      let j = m.job in
      let P = m.pipes in
      let S = m.sources in
      let R = m.reads in
      let w : source_of S p ≡ segment true false 0 = waiting_is (source_of S p) e in
      record {
        F = v.F;
        W = v.W;
        job = v.job;
        slots = v.slots;
        pipes = fed_pipes j P S p w m.active m.stages m.inlets v.pipes;
        ports = v.ports;
        shares = fed_shares j P S p w no m.next m.unbuilt m.ports m.queues v.shares;
        flow = fed_flow j P S p w m.active m.stages m.inlets m.ports m.queues places [] v.F v.W v.flow;
        past = fed_past j P S p w m.stages m.inlets m.ports m.queues v.past;
        splits = v.splits;
        queued = record { flags = λ q k n. v.queued.flags q k tt; counts = v.queued.counts };
        waits = fed_waits j P S p w no m.inlets m.ports m.queues v.waits;
        dirt = v.dirt;
        quiet = record { marks = v.quiet.marks; touches = λ q k n. v.quiet.touches q k tt; present = v.quiet.present };
        packs = fed_packs j P S p w m.inlets m.ports m.queues m.changed m.waits m.seen v.packs;
        reads = fed_reads j P S p w R r h d o f v.reads;
        once = fed_once j P S p w R r h d o f m.next m.unbuilt v.once;
        delivered = fed_delivered j P S p w R r h d o f m.stages m.queues m.outputs v.delivered;
        numbers = v.numbers;
        tells = rw (put_length no_read R r (record { leaf = (read_at R r).leaf; owner = none; delivered = true }) h) v.tells;
        sound = v.sound;
      }

  -- nobody waits for the read
  lost_ok : (r : ℕ) → r < length m.reads → (read_at m.reads r).owner ≡ none
      → Rests out told (with_reads (put no_read m.reads r (record { leaf = (read_at m.reads r).leaf; owner = none; delivered = true })) m)
  lost_ok r h o =
      let j = m.job in
      let P = m.pipes in
      let S = m.sources in
      let R = m.reads in
      record {
        F = v.F;
        W = v.W;
        job = v.job;
        slots = v.slots;
        pipes = v.pipes;
        ports = v.ports;
        shares = v.shares;
        flow = v.flow;
        past = v.past;
        splits = v.splits;
        queued = v.queued;
        waits = v.waits;
        dirt = v.dirt;
        quiet = v.quiet;
        packs = v.packs;
        reads = lost_reads j P S R r h o v.reads;
        once = lost_once j P S R r h o m.next m.unbuilt v.once;
        delivered = lost_all j P S R r h o m.stages m.queues m.outputs v.delivered;
        numbers = v.numbers;
        tells = rw (put_length no_read R r (record { leaf = (read_at R r).leaf; owner = none; delivered = true }) h) v.tells;
        sound = v.sound;
      }

  -- a delivery of a read in flight
  pub deliver_ok : (r : ℕ) → r < length m.reads → (get no_read m.reads r).delivered ≡ false → Rests out told (delivered r (get no_read m.reads r) m)
  unfolding bring
  deliver_ok r h d =
      let q : get no_read m.reads r ≡ read_at m.reads r = default_in no_read (record { leaf = 0; owner = none; delivered = true }) m.reads r h in
      let leaf : (get no_read m.reads r).leaf ≡ (read_at m.reads r).leaf = ap (λ (x : Read). x.leaf) q in
      by_option (get no_read m.reads r).owner
      (λ e. rw (e, leaf, bring) (lost_ok r h (sym (ap (λ (x : Read). x.owner) q) ∙ e)))
      (λ p own.
      let e : (read_at m.reads r).owner ≡ some p = sym (ap (λ (x : Read). x.owner) q) ∙ own in
      let u = v.reads.owned r p h e in
      let w : source_of m.sources p ≡ segment true false 0 = waiting_is (source_of m.sources p) u.2 in
      rw (own, leaf, bring, w) (runnable_ok places places (λ i. i ≢ p) all all no no no out told p _
      (fed_ok p r h u.0 e u.1 u.2 u.3) (λ i a n. n) u.1 (rw same) (λ a. v.quiet.touches p u.1 tt)))

  -- a read that is in flight
  abbrev pub InFlight : ℕ → Type 0
  InFlight r = (r < length m.reads) × ((get no_read m.reads r).delivered ≡ false)

  abbrev pub rows_of_read : ℕ → ℕ
  rows_of_read r = (node_of m.job (get no_read m.reads r).leaf).rows

  -- what a delivery comes to: the invariant goes on, or 10 or 11 and nothing has changed
  abbrev pub DeliverOk : ℕ → ℕ → Answer IsDelivered → Type 0
  DeliverOk r n (says a m') = InFlight r × (rows_of_read r ≡ n) × Rests out told m' × (m'.job ≡ m.job) × (m'.reads ≡ arrived r m.reads)
      × (m'.outputs ≡ m.outputs) × (m'.news ≡ m.news)
  DeliverOk r n (refuses k m') = (m' ≡ m) × (((k ≡ 10) × (InFlight r → ⊥)) ⊎ ((k ≡ 11) × InFlight r × (rows_of_read r ≢ n)))

  arrives : (r : ℕ) → ((delivered r (get no_read m.reads r) m).job ≡ m.job) × ((delivered r (get no_read m.reads r) m).reads ≡ arrived r m.reads)
      × ((delivered r (get no_read m.reads r) m).outputs ≡ m.outputs) × ((delivered r (get no_read m.reads r) m).news ≡ m.news)
  arrives r = let k = bring_keeps (get no_read m.reads r).owner (with_reads (arrived r m.reads) m) in (k.0, k.1, k.2, k.3)

  pub delivering_ok : (r n : ℕ) → DeliverOk r n (delivering r n m)
  unfolding delivering
  delivering_ok r n = by_bool (leb (length m.reads) r || (get no_read m.reads r).delivered)
      (λ e. rw e (refl, inl (refl, λ i. clash (cc (lt-leb (length m.reads) r i.0, i.1)))))
      (λ e.
      let f : InFlight r = (leb-false (length m.reads) r (or_left (leb (length m.reads) r) (get no_read m.reads r).delivered e), or_right (leb (length m.reads) r) (get no_read m.reads r).delivered e) in
      let w : Rests out told (delivered r (get no_read m.reads r) m) = deliver_ok r f.0 f.1 in
      by_bool (eqb (rows_of_read r) n)
      (λ d. rw (e, d, w.sound, faulted) (f, eqb-true (rows_of_read r) n d, w, (arrives r).0, (arrives r).1, (arrives r).2, (arrives r).3))
      (λ d. rw (e, d) (refl, inr (refl, f, eqb-false (rows_of_read r) n d))))
