-- The running pipeline's stage is set anew: More, and the stages finished after the source's end.
use Rattle.std.specs.Prelude.{◌≡◌, refl, false, List, [], ◌++◌, ℕ, ◌<◌, ◌≤◌}
use Rattle.std.proofs.Common.{ap, ◌∙◌, arith}
use Rattle.std.proofs.Math.Bool.{true}
use Rattle.std.proofs.Math.Option.{Option, none, some}
use Rattle.rules.specs.Table.{given}
use Rattle.rules.specs.Job.{Kind, segment as aSegment, concat as aConcat, pack as aPack, Job}
use Rattle.rules.specs.Plan.{Piece, Row, node_of}
use Rattle.rules.specs.Operators.{Source, segment, concat, pack}
use Rattle.rules.specs.Machine.{Machine, Stage, node_at_place, slot_places, source_at, stage_at, inlets_at, set_stage, segment_at}
use Rattle.laws.specs.Table.{same, other, by_eq, clash}
use Rattle.rules.specs.Drive.{said_more, finished_stages}
use Rattle.order.specs.Inv.{will, At, bit, Form, SlotPipe, SharePipe, Ended, Came, is_source, emitted}
use Rattle.order.specs.State.{Busy}
use Rattle.order.specs.Take.{pieces_for, will_of}

-- no cut stays no cut
uncut : (c d : Option ℕ) → given d ≡ given c → c ≡ none → d ≡ none
unfolding given
uncut c none e h = refl
uncut c (some x) e h = clash (cc)

-- what lowering laid, with another stage of the same kind
form_stage : (j : Job) (p s : ℕ) (k : Kind) (src : Source) (st st' : Stage) (xs : List ℕ) → given st'.cut ≡ given st.cut → Form j p s k src st xs → Form j p s k src st' xs
form_stage j p s aSegment (segment a b e) st st' xs h f = (f.0, uncut st.cut st'.cut h f.1)
form_stage j p s aSegment (concat i) st st' xs h f = record { leaf = f.leaf; is_leaf = f.is_leaf; same = f.same; is = f.is; cut = h ∙ f.cut }
form_stage j p s aSegment pack st st' xs h f = f
form_stage j p s aConcat (segment a b e) st st' xs h f = f
form_stage j p s aConcat (concat i) st st' xs h f = (f.0, uncut st.cut st'.cut h f.1)
form_stage j p s aConcat pack st st' xs h f = f
form_stage j p s aPack (segment a b e) st st' xs h f = f
form_stage j p s aPack (concat i) st st' xs h f = f
form_stage j p s aPack pack st st' xs h f = (f.0, uncut st.cut st'.cut h f.1)

slot_stage : {j : Job} {A : List (Option ℕ)} {p : ℕ} {src : Source} {st : Stage} {xs : List ℕ} (st' : Stage) → given st'.cut ≡ given st.cut
    → SlotPipe j A p src st xs → SlotPipe j A p src st' xs
slot_stage {j} {A} {p} {src} {st} {xs} st' h s = record {
  split = s.split;
  is = s.is;
  node = s.node;
  keep = s.keep;
  form = form_stage j p s.split (node_of j (node_at_place p)).kind src st st' xs h s.form;
}

share_stage : {j : Job} {p : ℕ} {src : Source} {st : Stage} {xs : List ℕ} (st' : Stage) → given st'.cut ≡ given st.cut → SharePipe j p src st xs → SharePipe j p src st' xs
share_stage {st} st' h s = record { leaf = s.leaf; source = s.source; none_in = s.none_in; uncut = uncut st.cut st'.cut h s.uncut }

-- what is asked of the new stage
pub record Restage (me : ℕ) (hand hand' : List Row) (out : ℕ → List Row) (told : ℕ) (m : Machine) (u : Busy me hand out told m) (st : Stage) : Type 0 where
  pub cut : given st.cut ≡ given (stage_at m me).cut
  pub goes : st.continuing ≡ true → (given st.cut ≡ true) × Came m.job m.reads (segment_at m me)
  pub rows : hand ++ will_of u.inv.F m me (stage_at m me)
      ≡ hand' ++ will_of u.inv.F m me st
  pub ends : given st.finishing ≡ true → (me < slot_places → u.inv.W me ≡ []) × ((i x : ℕ) → At (inlets_at m me) i x → Ended m.ports m.queues x) × (st.continuing ≡ false)
  pub stages : (n : ℕ) → st.finishing ≡ some n → n ≤ bit (given st.cut)
  pub spent : given st.finishing ≡ true → is_source (source_at m me) ≡ true → 1 ≤ emitted (source_at m me)
  pub more : st.more ≡ true → (is_source (source_at m me) ≡ true) × (1 ≤ emitted (source_at m me))

-- a stage that is as asked keeps the invariant, and leaves hand' to be written
pub restage : (me : ℕ) (hand hand' : List Row) (out : ℕ → List Row) (told : ℕ) (m : Machine) (u : Busy me hand out told m) (st : Stage)
    → Restage me hand hand' out told m u st → Busy me hand' out told (set_stage me st m)
restage me hand hand' out told m u st r =
    let I = u.inv in
    record {
      inv = record {
        F = I.F;
        W = I.W;
        job = I.job;
        slots = I.slots;
        pipes = record {
          bound = I.pipes.bound;
          slots = λ p l h. by_eq p me
              (λ e. rw (e, same) (slot_stage st r.cut (I.pipes.slots me u.running.live (rw e at h))))
              (λ n. rw other (I.pipes.slots p l h));
          shares = λ p l h. by_eq p me
              (λ e. rw (e, same) (share_stage st r.cut (I.pipes.shares me u.running.live (rw e at h))))
              (λ n. rw other (I.pipes.shares p l h));
          stages = λ p l. by_eq p me (λ e. rw (e, same) (λ c. (r.goes c).0)) (λ n. rw other (I.pipes.stages p l));
        };
        ports = I.ports;
        shares = I.shares;
        flow = record {
          port = I.flow.port;
          share = I.flow.share;
          pipes = λ p h l n. rw other (I.flow.pipes p h l n);
          mine = λ h l. rw same (I.flow.mine h l ∙ r.rows);
          ends = λ p h l. by_eq p me (λ e. rw (e, same) (λ c. (r.ends c).0 (rw e at h))) (λ n. rw other (I.flow.ends p h l));
          even = I.flow.even;
        };
        past = record {
          before = I.past.before;
          within = I.past.within;
          all = λ p i x l. by_eq p me (λ e. rw (e, same) (λ c. (r.ends c).1 i x)) (λ n. rw other (I.past.all p i x l));
          emit = λ p l. by_eq p me (λ e. rw (e, same) (λ c. (r.ends c).2)) (λ n. rw other (I.past.emit p l));
          more = λ p l. by_eq p me (λ e. rw (e, same) r.more) (λ n. rw other (I.past.more p l));
          stage_count = λ p n l. by_eq p me (λ e. rw (e, same) (r.stages n)) (λ d. rw other (I.past.stage_count p n l));
          spent = λ p l. by_eq p me (λ e. rw (e, same) r.spent) (λ n. rw other (I.past.spent p l));
        };
        splits = I.splits;
        queued = I.queued;
        waits = I.waits;
        dirt = I.dirt;
        quiet = I.quiet;
        packs = I.packs;
        reads = I.reads;
        once = I.once;
        delivered = record {
          queues = I.delivered.queues;
          outputs = I.delivered.outputs;
          stages = λ p l. by_eq p me (λ e. rw (e, same) (λ c. (r.goes c).1)) (λ n. rw other (I.delivered.stages p l));
          solid = I.delivered.solid;
          solid_outs = I.delivered.solid_outs;
        };
        numbers = I.numbers;
        tells = I.tells;
        sound = I.sound;
      };
      running = record { live = u.running.live; state = u.running.state; unqueued = u.running.unqueued };
      calm = u.calm;
      is_open = u.is_open;
    }

-- Flags

-- what is still to be written reads only the cut and whether the stage continues
pub will_stage : (F : ℕ → List Row) (ps : List Piece) (src : Source) (st st' : Stage) (xs : List ℕ) → st'.cut ≡ st.cut → st'.continuing ≡ st.continuing
    → will F ps src st xs ≡ will F ps src st' xs
will_stage F ps (segment a b e) st st' xs c d = refl
will_stage F ps (concat i) st st' xs c d = rw (c, d)
will_stage F ps pack st st' xs c d = refl

module _ (out : ℕ → List Row) (told me : ℕ) (m : Machine) (hand : List Row) (u : Busy me hand out told m) where
  -- the source did not say More
  pub said_ok : Busy me hand out told (said_more me false m)
  said_ok = restage me hand hand out told m u (record { cut = (stage_at m me).cut; continuing = (stage_at m me).continuing; finishing = (stage_at m me).finishing; more = false }) (record {
    cut = refl;
    goes = λ e. (u.inv.pipes.stages me u.running.live e, u.inv.delivered.stages me u.running.live e);
    rows = ap (λ (w : List Row). hand ++ w) (will_stage u.inv.F (pieces_for m me) (source_at m me) (stage_at m me) _ (inlets_at m me) refl refl);
    ends = λ e. (λ h. u.inv.flow.ends me h u.running.live e, λ i x a. u.inv.past.all me i x u.running.live e a, u.inv.past.emit me u.running.live e);
    stages = λ n. u.inv.past.stage_count me n u.running.live;
    spent = u.inv.past.spent me u.running.live;
    more = λ e. clash (cc);
  })

  -- a source that has ended: n stages are finished
  pub finish_ok : (n : ℕ) → (me < slot_places → u.inv.W me ≡ []) → ((i x : ℕ) → At (inlets_at m me) i x → Ended m.ports m.queues x) → (stage_at m me).continuing ≡ false
      → n ≤ bit (given (stage_at m me).cut) → (is_source (source_at m me) ≡ true → 1 ≤ emitted (source_at m me))
      → Busy me hand out told (finished_stages me n m)
  finish_ok n w a c h g = restage me hand hand out told m u (record { cut = (stage_at m me).cut; continuing = (stage_at m me).continuing; finishing = some n; more = (stage_at m me).more }) (record {
    cut = refl;
    goes = λ e. (u.inv.pipes.stages me u.running.live e, u.inv.delivered.stages me u.running.live e);
    rows = ap (λ (w : List Row). hand ++ w) (will_stage u.inv.F (pieces_for m me) (source_at m me) (stage_at m me) _ (inlets_at m me) refl refl);
    ends = λ e. (w, a, c);
    stages = λ k e. let z : n ≡ k = cc in omega arith;
    spent = λ e. g;
    more = u.inv.past.more me u.running.live;
  })

  -- the next finishing stage
  pub finishing_ok : (n k : ℕ) → (stage_at m me).finishing ≡ some k → n ≤ bit (given (stage_at m me).cut) → Busy me hand out told (finished_stages me n m)
  unfolding given
  finishing_ok n k e h =
      let g : given (stage_at m me).finishing ≡ true = rw e in
      finish_ok n (λ h. u.inv.flow.ends me h u.running.live g) (λ i x a. u.inv.past.all me i x u.running.live g a) (u.inv.past.emit me u.running.live g) h (u.inv.past.spent me u.running.live g)
