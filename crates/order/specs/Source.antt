-- The segment source at `me` goes on to another of its states, its stage with it: what the groups of the invariant keep.
use Rattle.std.specs.Prelude.{◌≡◌, refl, ◌≢◌, Bool, true, false, List, [], ◌++◌, ℕ, ◌<◌, ◌≤◌, drop, ltb}
use Rattle.std.proofs.Common.{sym, ap, ◌∙◌, ltb-true, ltb-false}
use Rattle.std.proofs.Math.Option.{some, Option, none}
use Rattle.rules.specs.Table.{given}
use Rattle.rules.specs.Job.{Kind, Job, is_segment}
use Rattle.rules.specs.Plan.{Row, node_of, is_leaf}
use Rattle.rules.specs.InletSet.{InletSet}
use Rattle.rules.specs.Port.{Batch, Seen}
use Rattle.rules.specs.Operators.{Source, segment, concat, pack}
use Rattle.rules.specs.Machine.{Machine, Pipeline, Stage, Port, Read, Output, slot_places, slot_at_place, node_at_place, with_ports, with_queues, with_sources, with_stages}
use Rattle.laws.specs.Table.{by_bool, by_eq, clash}
use Rattle.laws.specs.Rows.{run_rows}
use Rattle.order.specs.Inv.{bit, Live, source_of, stage_of, inlets_of, split_in, Form, SlotPipe, is_source, SharePipe, Pipes, emitted, Shares, pieces_in, Flow, Past, Waits, Packs, pend, Reads, Once, AllCame, Delivered}
use Rattle.order.specs.State.{OutletOf, Busy}
use Rattle.order.specs.Among.{Among}
use Rattle.order.specs.Outlets.{leaf_is}
use Rattle.order.specs.Write.{Wrote, wrote_shut, wrote_there, wrote_ports, wrote_past, wrote_waits, wrote_dirt, wrote_quiet, wrote_packs, wrote_delivered}

-- A segment source's place: a leaf, no inlets, no cutting stage

pub record SourcePlace (j : Job) (p : ℕ) (st : Stage) (xs : List ℕ) : Type 0 where
  pub leaf : is_leaf j (node_at_place p) ≡ true
  pub none_in : xs ≡ []
  pub uncut : st.cut ≡ none

-- a segment source stands at a leaf
form_source : (j : Job) (p s : ℕ) (k : Kind) (src : Source) (st : Stage) (xs : List ℕ) → is_source src ≡ true → Form j p s k src st xs → (is_segment k ≡ true) × (xs ≡ []) × (st.cut ≡ none)
form_source j p s Kind.segment (segment a b e) st xs h f = (refl, f.0, f.1)
form_source j p s Kind.segment (concat i) st xs h f = clash (cc)
form_source j p s Kind.segment pack st xs h f = clash (cc)
form_source j p s Kind.concat (segment a b e) st xs h f = absurd f
form_source j p s Kind.concat (concat i) st xs h f = clash (cc)
form_source j p s Kind.concat pack st xs h f = clash (cc)
form_source j p s Kind.pack (segment a b e) st xs h f = absurd f
form_source j p s Kind.pack (concat i) st xs h f = clash (cc)
form_source j p s Kind.pack pack st xs h f = clash (cc)

-- any segment source may stand there
form_again : (j : Job) (p s : ℕ) (k : Kind) (a b : Bool) (e : ℕ) (st : Stage) (xs : List ℕ) → is_segment k ≡ true → xs ≡ [] → st.cut ≡ none → Form j p s k (segment a b e) st xs
form_again j p s Kind.segment a b e st xs h f g = (f, g)
form_again j p s Kind.concat a b e st xs h f g = clash (cc)
form_again j p s Kind.pack a b e st xs h f g = clash (cc)

pub source_place : (j : Job) (A : List (Option ℕ)) (P : List Pipeline) (S : List Source) (G : List Stage) (I : List (List ℕ)) (p : ℕ) → Pipes j A P S G I → Live P p
    → is_source (source_of S p) ≡ true → SourcePlace j p (stage_of G p) (inlets_of I p)
source_place j A P S G I p v l h = by_bool (ltb p slot_places)
    (λ d. let u : SlotPipe j A p (source_of S p) (stage_of G p) (inlets_of I p) = v.slots p l (ltb-true p slot_places d) in
    let f = form_source j p u.split (node_of j (node_at_place p)).kind (source_of S p) (stage_of G p) (inlets_of I p) h u.form in
    record { leaf = leaf_is j (node_at_place p) u.node f.0; none_in = f.1; uncut = f.2 })
    (λ d. let u : SharePipe j p (source_of S p) (stage_of G p) (inlets_of I p) = v.shares p l (ltb-false p slot_places d) in
    record { leaf = u.leaf; none_in = u.none_in; uncut = u.uncut })

-- a segment source does not continue
pub source_rests : (j : Job) (A : List (Option ℕ)) (P : List Pipeline) (S : List Source) (G : List Stage) (I : List (List ℕ)) (p : ℕ) → Pipes j A P S G I → Live P p
    → is_source (source_of S p) ≡ true → (stage_of G p).continuing ≡ false
unfolding given
source_rests j A P S G I p v l h = by_bool (stage_of G p).continuing
    (λ d. clash (cc (v.stages p l d, (source_place j A P S G I p v l h).uncut)))
    (λ d. d)

-- the source and the stage of `me` alone changed
pub record Stepped (me : ℕ) (src : Source) (st : Stage) (S S' : List Source) (G G' : List Stage) : Type 0 where
  pub source : source_of S' me ≡ src
  pub stage : stage_of G' me ≡ st
  pub sources : (p : ℕ) → p ≢ me → source_of S' p ≡ source_of S p
  pub stages : (p : ℕ) → p ≢ me → stage_of G' p ≡ stage_of G p

module _ (me : ℕ) (a b : Bool) (e : ℕ) (st : Stage) (S S' : List Source) (G G' : List Stage) (w : Stepped me (segment a b e) st S S' G G') (h : is_source (source_of S me) ≡ true) where
  pub step_kind : (p : ℕ) → is_source (source_of S' p) ≡ is_source (source_of S p)
  step_kind p = by_eq p me (λ q. rw (q, w.source) (sym h)) (λ n. rw (w.sources p n))

  -- what is no segment source is as it was
  pub not_me : (p : ℕ) → is_source (source_of S' p) ≡ false → p ≢ me
  not_me p d q = clash (cc (d, w.source))

  pub step_pipes : {j : Job} {A : List (Option ℕ)} {P : List Pipeline} {I : List (List ℕ)} → Live P me → st.cut ≡ none → st.continuing ≡ false → Pipes j A P S G I → Pipes j A P S' G' I
  step_pipes {j} {A} {P} {I} l c r v = record {
    bound = v.bound;
    slots = λ p k s. by_eq p me (λ q. rw q (mine (rw q at s))) (λ n. rw (w.sources p n, w.stages p n) (v.slots p k s));
    shares = λ p k s. by_eq p me
        (λ q. let u = v.shares p k s in record { leaf = u.leaf; source = rw (q, w.source); none_in = u.none_in; uncut = rw (q, w.stage) c })
        (λ n. rw (w.sources p n, w.stages p n) (v.shares p k s));
    stages = λ p k d. by_eq p me (λ q. clash (cc (r, rw (q, w.stage) at d))) (λ n. rw (w.stages p n) (v.stages p k (rw (w.stages p n) at d)));
  }
    where
      mine : me < slot_places → SlotPipe j A me (source_of S' me) (stage_of G' me) (inlets_of I me)
      mine s =
          let u : SlotPipe j A me (source_of S me) (stage_of G me) (inlets_of I me) = v.slots me l s in
          let f = form_source j me u.split (node_of j (node_at_place me)).kind (source_of S me) (stage_of G me) (inlets_of I me) h u.form in
          record {
            split = u.split;
            is = u.is;
            node = u.node;
            keep = u.keep;
            form = rw (w.source, w.stage) (form_again j me u.split (node_of j (node_at_place me)).kind a b e st (inlets_of I me) f.0 f.1 c);
          }

  pub step_past : {P : List Pipeline} {I : List (List ℕ)} {O : List Port} {Q : List (List Batch)} → inlets_of I me ≡ [] → st.continuing ≡ false → (st.more ≡ true → 1 ≤ e) → (given st.finishing ≡ true → 1 ≤ e)
      → ((n : ℕ) → st.finishing ≡ some n → n ≤ bit (given st.cut)) → Past P S G I O Q → Past P S' G' I O Q
  step_past i r mo fi fc v = record {
    stage_count = λ p n l. by_eq p me (λ d. rw (d, w.stage) (fc n)) (λ k. rw (w.stages p k) (v.stage_count p n l));
    before = λ p c k x l q. v.before p c k x l (sym (w.sources p (not_me p (ap is_source q))) ∙ q);
    within = λ p c l q. v.within p c l (sym (w.sources p (not_me p (ap is_source q))) ∙ q);
    all = λ p k x l q t. by_eq p me (λ d. absurd (rw (d, i) at t)) (λ n. v.all p k x l (rw (w.stages p n) at q) t);
    emit = λ p l q. by_eq p me (λ d. rw (d, w.stage) r) (λ n. rw (w.stages p n) (v.emit p l (rw (w.stages p n) at q)));
    more = λ p l q. by_eq p me (λ d. rw (d, w.source) (refl, mo (rw (d, w.stage) at q))) (λ n. rw (w.sources p n) (v.more p l (rw (w.stages p n) at q)));
    spent = λ p l q k. by_eq p me (λ d. rw (d, w.source) (fi (rw (d, w.stage) at q))) (λ n. rw (w.sources p n) (v.spent p l (rw (w.stages p n) at q) (rw (w.sources p n) at k)));
  }

  pub step_waits : {freed : ℕ → Type 0} {P : List Pipeline} {I : List (List ℕ)} {O : List Port} {Q : List (List Batch)} → Waits (λ p. p ≢ me) freed P S I O Q → Waits (λ p. p ≢ me) freed P S' I O Q
  step_waits v = record { on_io = λ p l n. rw (w.sources p n) (v.on_io p l n); on_inlet = v.on_inlet; on_outlet = v.on_outlet }

  pub step_packs : {P : List Pipeline} {I : List (List ℕ)} {O : List Port} {Q : List (List Batch)} {C B : List InletSet} {E : List (List Seen)} → Packs P S I O Q C B E → Packs P S' I O Q C B E
  step_packs v = record {
    size = λ p l q. v.size p l (sym (w.sources p (not_me p (ap is_source q))) ∙ q);
    unique = λ p l q. v.unique p l (sym (w.sources p (not_me p (ap is_source q))) ∙ q);
    within = λ p i l q. v.within p i l (sym (w.sources p (not_me p (ap is_source q))) ∙ q);
    known = λ p i l q. v.known p i l (sym (w.sources p (not_me p (ap is_source q))) ∙ q);
    waits = λ p i x l q. v.waits p i x l (sym (w.sources p (not_me p (ap is_source q))) ∙ q);
    seen = λ p i x l q. v.seen p i x l (sym (w.sources p (not_me p (ap is_source q))) ∙ q);
  }

  pub step_once : {j : Job} {next : ℕ} {unb : List Bool} {P : List Pipeline} {R : List Read} → Once j next unb P S R → Once j next unb P S' R
  step_once v = record {
    single = λ p q k l x y. v.single p q k l (sym (step_kind p) ∙ x) (sym (step_kind q) ∙ y);
    unread = v.unread;
    unsourced = λ l p i c k x. v.unsourced l p i c k (sym (step_kind p) ∙ x);
  }

  pub step_delivered : {j : Job} {P : List Pipeline} {Q : List (List Batch)} {R : List Read} {outs : List Output} → st.continuing ≡ false → Delivered j P G Q R outs → Delivered j P G' Q R outs
  step_delivered r v = record {
    queues = v.queues;
    outputs = v.outputs;
    stages = λ p l d. by_eq p me (λ q. clash (cc (r, rw (q, w.stage) at d))) (λ n. v.stages p l (rw (w.stages p n) at d));
    solid = v.solid;
    solid_outs = v.solid_outs;
  }

  -- shared ports see only what a shared source has emitted
  pub step_shares : {j : Job} {busy : ℕ → Type 0} {next : ℕ} {unb : List Bool} {P : List Pipeline} {O : List Port} {Q : List (List Batch)}
      → ((p : ℕ) → slot_places ≤ p → emitted (source_of S' p) ≡ emitted (source_of S p)) → Shares j busy next unb P S O Q → Shares j busy next unb P S' O Q
  step_shares k v = record {
    ports = λ x s t. let u = v.ports x s t in
        record {
          leaf = u.leaf;
          split = u.split;
          is = u.is;
          below = u.below;
          is_leaf = u.is_leaf;
          pair = u.pair;
          shared = u.shared;
          built = u.built;
          unslotted = u.unslotted;
          holds = u.holds;
          opens = λ c. let o = u.opens c in (o.0, o.1, rw (k o.0 o.1.1) o.2);
          shuts = u.shuts;
          full = u.full;
        };
    waits = v.waits;
    unbuilt = v.unbuilt;
  }

  -- the rows that it will write are told anew
  pub step_flow : {j : Job} {A : List (Option ℕ)} {P : List Pipeline} {I : List (List ℕ)} {O : List Port} {Q : List (List Batch)} {hand hand' : List Row} {F : ℕ → List Row} (W : ℕ → List Row)
      → (me < slot_places → Live P me → W me ≡ hand' ++ run_rows (drop e (pieces_in j me (split_in A (slot_at_place me)))))
      → (me < slot_places → given st.finishing ≡ true → W me ≡ [])
      → Flow j A P S G I O Q me hand F W → Flow j A P S' G' I O Q me hand' F W
  step_flow W t fi f = record {
    port = f.port;
    share = f.share;
    pipes = λ p s l n. rw (w.sources p n, w.stages p n) (f.pipes p s l n);
    mine = λ s l. rw w.source (t s l);
    ends = λ p s l d. by_eq p me (λ q. rw q (fi (rw q at s) (rw (q, w.stage) at d))) (λ n. f.ends p s l (rw (w.stages p n) at d));
    even = λ p i k x y l q. f.even p i k x y l (sym (w.sources p (not_me p (ap is_source q))) ∙ q);
  }

  -- a source whose read has come goes on
  pub step_reads : {j : Job} {P : List Pipeline} {R : List Read} (b₀ : Bool) (e₀ : ℕ) → a ≡ true → pend (segment a b e) ≡ false → source_of S me ≡ segment true b₀ e₀ → pend (source_of S me) ≡ false
      → Reads j P S R → Reads j P S' R
  step_reads {j} {P} {R} b₀ e₀ ha c s d v = record {
    leaf = v.leaf;
    once = v.once;
    owned = λ r p k x. let u = v.owned r p k x in
        let n : p ≢ me = λ q. clash (cc (u.2, d)) in
        (u.0, u.1, rw (w.sources p n) u.2, u.3);
    pended = λ p l x. let n : p ≢ me = λ q. clash (cc (x, w.source, c)) in v.pended p l (rw (w.sources p n) at x);
    unasked = λ p e' r b' l x. let n : p ≢ me = λ q. clash (cc (x, w.source, ha)) in v.unasked p e' r b' l (rw (w.sources p n) at x);
    came = λ p e' b' l x y. by_eq p me (λ q. rw q (v.came me e₀ b₀ (rw q at l) s d)) (λ n. v.came p e' b' l (rw (w.sources p n) at x) (rw (w.sources p n) at y));
    fresh = λ p e' b' l x. let n : p ≢ me = λ q. clash (cc (x, w.source, ha)) in v.fresh p e' b' l (rw (w.sources p n) at x);
  }

-- The run goes on after the source went on, and wrote batch c to the outlets xs; `hand'` is what it has taken and not written.
pub step_ok : (out : ℕ → List Row) (told me : ℕ) (m : Machine) (hand' : List Row) (b₀ b : Bool) (e₀ e : ℕ) (st : Stage) (xs : List ℕ) (c : Batch)
    (S' : List Source) (G' : List Stage) (O' : List Port) (Q' : List (List Batch)) (v : Busy me [] out told m)
    → source_of m.sources me ≡ segment true b₀ e₀ → Stepped me (segment true b e) st m.sources S' m.stages G'
    → st.cut ≡ none → st.continuing ≡ false → (st.more ≡ true → 1 ≤ e) → (given st.finishing ≡ true → 1 ≤ e) → ((n : ℕ) → st.finishing ≡ some n → n ≤ bit (given st.cut)) → pend (segment true b e) ≡ false
    → Wrote xs c m.ports m.queues O' Q' → ((x : ℕ) → Among x xs → OutletOf m.job me x) → AllCame m.job m.reads c.cells → ((x : ℕ) → Among x xs → 0 < c.rows)
    → Shares m.job (λ p. p ≡ me) m.next m.unbuilt m.pipes S' O' Q'
    → Flow m.job m.active m.pipes S' G' m.inlets O' Q' me hand' v.inv.F v.inv.W
    → Busy me hand' out told (with_queues Q' (with_ports O' (with_stages G' (with_sources S' m))))
step_ok out told me m hand' b₀ b e₀ e st xs c S' G' O' Q' v s w cut con mo fi fc pe r outs came sized shares flow =
    let S = m.sources in
    let G = m.stages in
    let O = m.ports in
    let Q = m.queues in
    let l = v.running.live in
    let h : is_source (source_of S me) ≡ true = rw s in
    record {
      inv = record {
        F = v.inv.F;
        W = v.inv.W;
        job = v.inv.job;
        slots = v.inv.slots;
        pipes = step_pipes me true b e st S S' G G' w h l cut con v.inv.pipes;
        ports = wrote_ports xs c O Q O' Q' r v.inv.ports;
        shares = shares;
        flow = flow;
        past = wrote_past xs c O Q O' Q' r (step_past me true b e st S S' G G' w h (source_place m.job m.active m.pipes S G m.inlets me v.inv.pipes l h).none_in con mo fi fc v.inv.past);
        splits = v.inv.splits;
        queued = v.inv.queued;
        waits = wrote_waits xs c O Q O' Q' r (step_waits me true b e st S S' G G' w h v.inv.waits);
        dirt = wrote_dirt xs c O Q O' Q' r v.inv.dirt;
        quiet = wrote_quiet xs c O Q O' Q' r outs v.inv.quiet;
        packs = wrote_packs xs c O Q O' Q' r (step_packs me true b e st S S' G G' w h v.inv.packs);
        reads = step_reads me true b e st S S' G G' w h b₀ e₀ refl pe s v.calm v.inv.reads;
        once = step_once me true b e st S S' G G' w h v.inv.once;
        delivered = wrote_delivered xs c O Q O' Q' r came sized (step_delivered me true b e st S S' G G' w h con v.inv.delivered);
        numbers = v.inv.numbers;
        tells = v.inv.tells;
        sound = v.inv.sound;
      };
      running = record { live = l; state = v.running.state; unqueued = v.running.unqueued };
      calm = rw w.source pe;
      is_open = λ x o t. wrote_shut xs c O Q O' Q' r x ∙ v.is_open x o (sym (wrote_there xs c O Q O' Q' r x) ∙ t);
    }
