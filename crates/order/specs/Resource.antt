-- The running concat goes on to another current inlet.
use Rattle.std.specs.Prelude.{◌≡◌, refl, ◌≢◌, Bool, true, false, List, [], ℕ, ◌<◌, ◌≤◌, length, drop, ltb}
use Rattle.std.proofs.Common.{inl, inr, arith, ltb-true, ltb-false}
use Rattle.std.proofs.Math.Option.{Option}
use Rattle.rules.specs.Table.{put}
use Rattle.rules.specs.Job.{Kind, segment as aSegment, concat as aConcat, pack as aPack, Job}
use Rattle.rules.specs.Plan.{Row, node_of}
use Rattle.rules.specs.Port.{Batch}
use Rattle.rules.specs.Operators.{Source, segment, concat, pack}
use Rattle.rules.specs.Machine.{Machine, Pipeline, Stage, Port, Read, node_at_place, slot_places, no_source, source_at, inlets_at, set_source, set_changed}
use Rattle.rules.specs.Drive.{touch}
use Rattle.laws.specs.Table.{same, other, by_bool, by_eq, clash}
use Rattle.order.specs.Inv.{Live, At, join, source_of, Form, SlotPipe, Pipes, Full, Ended, Past, inlets_of, Reads, Once, is_source, pend}
use Rattle.order.specs.State.{Busy, Touched}
use Rattle.order.specs.Taken.{touched_more, waits_map, share_frame}

-- a concat stands at a slot's place
pub concat_place : {j : Job} {A : List (Option ℕ)} {P : List Pipeline} {S : List Source} {G : List Stage} {I : List (List ℕ)} (me i : ℕ)
    → Pipes j A P S G I → Live P me → source_of S me ≡ concat i → me < slot_places
concat_place me i v l e = by_bool (ltb me slot_places) (ltb-true me slot_places) (λ f. clash (cc (v.shares me l (ltb-false me slot_places f)).source))

-- what lowering laid does not name the current inlet
form_concat : (j : Job) (p s : ℕ) (k : Kind) (c d : ℕ) (st : Stage) (xs : List ℕ) → Form j p s k (concat c) st xs → Form j p s k (concat d) st xs
form_concat j p s aSegment c d st xs f = f
form_concat j p s aConcat c d st xs f = f
form_concat j p s aPack c d st xs f = f

slot_concat : {j : Job} {A : List (Option ℕ)} {p c : ℕ} {st : Stage} {xs : List ℕ} (d : ℕ) → SlotPipe j A p (concat c) st xs → SlotPipe j A p (concat d) st xs
slot_concat {j} {A} {p} {c} {st} {xs} d s = record {
  split = s.split;
  is = s.is;
  node = s.node;
  keep = s.keep;
  form = form_concat j p s.split (node_of j (node_at_place p)).kind c d st xs s.form;
}

-- another current inlet of me, in the table of sources
module _ (S : List Source) (me c d : ℕ) (e : source_of S me ≡ concat c) where
  -- nothing that others ask of the sources changes
  pend_same : (p : ℕ) → pend (source_of (put no_source S me (concat d)) p) ≡ pend (source_of S p)
  pend_same p = by_eq p me (λ z. rw (z, same, e)) (λ n. rw other)

  source_same : (p : ℕ) → is_source (source_of (put no_source S me (concat d)) p) ≡ is_source (source_of S p)
  source_same p = by_eq p me (λ z. rw (z, same, e)) (λ n. rw other)

  was_segment : (p a : ℕ) (b b' : Bool) → source_of (put no_source S me (concat d)) p ≡ segment b b' a → source_of S p ≡ segment b b' a
  was_segment p a b b' h = by_eq p me (λ z. clash (cc (same no_source S me (concat d)))) (λ n. rw other at h)

  not_pack : (p : ℕ) → source_of (put no_source S me (concat d)) p ≡ pack → p ≢ me
  not_pack p h z = clash (cc (same no_source S me (concat d)))

  -- the groups that read the sources
  reads_same : {j : Job} {P : List Pipeline} {R : List Read} → Reads j P S R → Reads j P (put no_source S me (concat d)) R
  reads_same v = record {
    leaf = v.leaf;
    once = v.once;
    owned = λ r p h f. let o = v.owned r p h f in (o.0, o.1, rw (pend_same p) o.2, o.3);
    pended = λ p l h. v.pended p l (rw (pend_same p) at h);
    unasked = λ p a r b l h. v.unasked p a r b l (was_segment p a false b h);
    came = λ p a b l h f. v.came p a b l (was_segment p a true b h) (rw (pend_same p) at f);
    fresh = λ p a b l h. v.fresh p a b l (was_segment p a false b h);
  }

  once_same : {j : Job} {next : ℕ} {unb : List Bool} {P : List Pipeline} {R : List Read} → Once j next unb P S R → Once j next unb P (put no_source S me (concat d)) R
  once_same v = record {
    single = λ p q l k h g. v.single p q l k (rw (source_same p) at h) (rw (source_same q) at g);
    unread = v.unread;
    unsourced = λ l p i h k g. v.unsourced l p i h k (rw (source_same p) at g);
  }

  past_same : {P : List Pipeline} {G : List Stage} {I : List (List ℕ)} {O : List Port} {Q : List (List Batch)} → Past P S G I O Q
      → ((k x : ℕ) → At (inlets_of I me) k x → k < d → Ended O Q x) → d ≤ length (inlets_of I me) → Past P (put no_source S me (concat d)) G I O Q
  past_same v past h = record {
    before = λ p a k x l f at b. by_eq p me
        (λ z. let i : a ≡ d = cc (same no_source S me (concat d)) in past k x (rw z at at) (omega arith))
        (λ n. v.before p a k x l (rw other at f) at b);
    within = λ p a l f. by_eq p me
        (λ z. let i : a ≡ d = cc (same no_source S me (concat d)) in rw (z, i) h)
        (λ n. v.within p a l (rw other at f));
    all = v.all;
    emit = v.emit;
    more = λ p l f. by_eq p me (λ z. clash (cc (v.more p l f).0)) (λ n. rw other (v.more p l f));
    stage_count = v.stage_count;
    spent = λ p l f. by_eq p me (λ z. rw (z, same) (λ k. clash (cc))) (λ n. rw other (v.spent p l f));
  }

-- more ports may have been emptied
full_more : (freed freed' : ℕ → Type 0) (Q : List (List Batch)) → ((y : ℕ) → freed y → freed' y) → (y : ℕ) → Full freed Q y → Full freed' Q y
full_more freed freed' Q h y (inl f) = inl f
full_more freed freed' Q h y (inr f) = inr (h y f)

-- the concat has looked at inlets, and passed over ended ones up to d
pub passed_ok : (out : ℕ → List Row) (told me : ℕ) (m : Machine) (c d : ℕ) (is : List ℕ) (u : Busy me [] out told m) → source_at m me ≡ concat c
    → d ≤ length (inlets_at m me) → ((k x : ℕ) → At (inlets_at m me) k x → k < d → Ended m.ports m.queues x)
    → join u.inv.F (drop c (inlets_at m me)) ≡ join u.inv.F (drop d (inlets_at m me))
    → Busy me [] out told (set_changed me [] (touch me is (set_source me (concat d) m)))
passed_ok out told me m c d is u es h past rows =
    let I = u.inv in
    let l = u.running.live in
    let S = m.sources in
    let low : me < slot_places = concat_place me c I.pipes l es in
    record {
      inv = record {
        F = I.F;
        W = I.W;
        job = I.job;
        slots = I.slots;
        pipes = record {
          bound = I.pipes.bound;
          slots = λ p k g. by_eq p me
              (λ e. rw (e, same) (slot_concat d (rw es at (I.pipes.slots me l low))))
              (λ n. rw other (I.pipes.slots p k g));
          shares = λ p k g. let n : p ≢ me = λ e. omega arith in rw other (I.pipes.shares p k g);
          stages = I.pipes.stages;
        };
        ports = I.ports;
        shares = record {
          ports = λ x g t. share_frame x (λ p k. let n : p ≢ me = λ e. omega arith in rw other) refl (I.shares.ports x g t);
          waits = I.shares.waits;
          unbuilt = I.shares.unbuilt;
        };
        flow = record {
          port = I.flow.port;
          share = I.flow.share;
          pipes = λ p g k n. rw other (I.flow.pipes p g k n);
          mine = λ g k. rw (same, ← rows) (rw es at (I.flow.mine g k));
          ends = I.flow.ends;
          even = λ p a b x y k e. let n : p ≢ me = not_pack S me c d es p e in I.flow.even p a b x y k (rw other at e);
        };
        past = past_same S me c d es I.past past h;
        splits = I.splits;
        queued = I.queued;
        waits = waits_map (λ p n. rw other) (λ y i. i) (full_more (Touched m me) (Touched (touch me is m) me) m.queues (touched_more me is m)) I.waits;
        dirt = I.dirt;
        quiet = record { marks = I.quiet.marks; touches = λ p k n. rw other (I.quiet.touches p k n); present = I.quiet.present };
        packs = record {
          size = λ p k e. let n : p ≢ me = not_pack S me c d es p e in I.packs.size p k (rw other at e);
          unique = λ p k e. let n : p ≢ me = not_pack S me c d es p e in I.packs.unique p k (rw other at e);
          within = λ p i k e. let n : p ≢ me = not_pack S me c d es p e in I.packs.within p i k (rw other at e);
          known = λ p i k e. let n : p ≢ me = not_pack S me c d es p e in rw other (I.packs.known p i k (rw other at e));
          waits = λ p i x k e. let n : p ≢ me = not_pack S me c d es p e in I.packs.waits p i x k (rw other at e);
          seen = λ p i x k e a. let n : p ≢ me = not_pack S me c d es p e in rw other (I.packs.seen p i x k (rw other at e) a);
        };
        reads = reads_same S me c d es I.reads;
        once = once_same S me c d es I.once;
        delivered = I.delivered;
        numbers = I.numbers;
        tells = I.tells;
        sound = I.sound;
      };
      running = record { live = l; state = u.running.state; unqueued = u.running.unqueued };
      calm = rw same;
      is_open = u.is_open;
    }
