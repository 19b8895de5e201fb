-- A concat or pack source is laid at a free place: each group over the tables before and after.
use Rattle.std.specs.Prelude.{◌≡◌, refl, ◌≢◌, ◌⊎◌, Bool, true, false, ◌&&◌, not, ℕ, zero, suc, ◌<◌, ◌≤◌, length, replicate, if◌then◌else◌}
use Rattle.std.proofs.Common.{sym, ap, ◌∙◌, inl, inr, arith, ne_eqb}
use mathlib.Core.List.{List, [], ◌∷◌, reverse_aux}
use Rattle.std.proofs.Math.Option.{Option, none}
use Rattle.std.proofs.lemmas.List.{length-replicate}
use Rattle.rules.specs.Table.{put, given, has, up_from}
use Rattle.rules.specs.Job.{Job}
use Rattle.rules.specs.Plan.{Row}
use Rattle.rules.specs.InletSet.{InletSet}
use Rattle.rules.specs.Port.{Batch, Seen, waiting}
use Rattle.rules.specs.Operators.{Source, segment, concat, pack, runnable}
use Rattle.rules.specs.Machine.{Pipeline, Stage, pipe, Port, Read, Output, place, slot_at_place, slot_places, places, no_pipe, no_source, no_stage}
use Rattle.rules.specs.Pipelines.{fresh, all_inlets, is_pack_source}
use Rattle.laws.specs.Table.{by_bool, by_eq, clash, same, other, put_length, get_replicate}
use Rattle.laws.specs.Rising.{has_reverse}
use Rattle.order.specs.Inv.{Live, There, reader_of, port_of, pipe_of, source_of, inlets_of, split_in, At, bit, is_source, pieces_in, will, Pipes, SlotPipe, SharePort, Shares, Flow, Past, Queued, pend, Waits, Differ, Quiet, Packs, Reads, Once, Delivered}
use Rattle.order.specs.State.{all, no}
use Rattle.order.specs.Base.{place_apart, at_below}
use Rattle.order.specs.Lowers.{Connected, LowPorts, LowNumbers, none_to}
use Rattle.order.specs.Tally.{lives_put, sum_change}
use Rattle.order.specs.Views.{sames, others, state_same, state_other}
use Rattle.order.specs.Lists.{has_up, up_has}

-- all inlets: each once, and only those
differ_onto : (a n : ℕ) (r : List ℕ) → Differ r → ((i : ℕ) → has i r ≡ true → i < a) → Differ (reverse_aux (up_from a n) r)
unfolding has up_from
differ_onto a zero r d h = d
differ_onto a (suc n) r d h = differ_onto (suc a) n (a ∷ r)
    (by_bool (has a r) (λ e. let z = h a e in absurd (omega arith)) (λ e. e), d)
    (λ i e. by_eq i a (λ q. omega arith) (λ q. let z = h i (rw (ne_eqb i a q) at e) in omega arith))

pub all_differ : (n : ℕ) → Differ (all_inlets n)
unfolding has
all_differ n = differ_onto 0 n [] tt (λ i e. clash (cc))

pub all_low : (n i : ℕ) → has i (all_inlets n) ≡ true → i < n
all_low n i h = let z = up_has 0 n i (sym (has_reverse i (up_from 0 n)) ∙ h) in omega (arith, z.1)

pub inlet_has : (n i : ℕ) → i < n → has i (all_inlets n) ≡ true
inlet_has n i h = has_reverse i (up_from 0 n) ∙ has_up 0 n i (omega arith) (omega arith)

-- a source that reads inlets waits for no read
pub pend_plain : (src : Source) → is_source src ≡ false → pend src ≡ false
pend_plain (segment a b e) h = clash (cc)
pend_plain (concat i) h = refl
pend_plain pack h = refl

-- a stage that has done nothing
abbrev pub new_stage : Option ℕ → Stage
new_stage cut = record { cut = cut; continuing = false; finishing = none; more = false }

-- A pipeline that has not run

module _ (p : ℕ) (v : Pipeline) (src : Source) (cut : Option ℕ) (xs : List ℕ) (P : List Pipeline) (S : List Source) (G : List Stage) (I : List (List ℕ))
    (runs : v.state ≡ runnable) (asks : pend src ≡ false) where
  was : (q : ℕ) → q ≢ p → Live (put no_pipe P p v) q → Live P q
  was q n l = rw other at l

  pub past_new : (O : List Port) (Q : List (List Batch)) → ((c : ℕ) → src ≡ concat c → c ≡ 0) → Past P S G I O Q
      → Past (put no_pipe P p v) (put no_source S p src) (put no_stage G p (new_stage cut)) (put [] I p xs) O Q
  unfolding given
  past_new O Q first w = record {
    before = λ q c i x l e a h. by_eq q p (λ d. absurd (let z = first c (rw (d, same) at e) in omega arith)) (λ n. w.before q c i x (was q n l) (rw other at e) (rw other at a) h);
    within = λ q c l e. by_eq q p (λ d. let z = first c (rw (d, same) at e) in rw z (omega arith)) (λ n. rw other (w.within q c (was q n l) (rw other at e)));
    all = λ q i x l h a. by_eq q p (λ e. clash (cc (rw (e, same) at h))) (λ n. w.all q i x (was q n l) (rw other at h) (rw other at a));
    emit = λ q l h. by_eq q p (λ e. clash (cc (rw (e, same) at h))) (λ n. rw other (w.emit q (was q n l) (rw other at h)));
    more = λ q l h. by_eq q p (λ e. clash (cc (rw (e, same) at h))) (λ n. simp others (w.more q (was q n l) (rw other at h)));
    stage_count = λ q c l h. by_eq q p (λ e. clash (cc (rw (e, same) at h))) (λ n. rw other (w.stage_count q c (was q n l) (rw other at h)));
    spent = λ q l h e. by_eq q p (λ d. clash (cc (rw (d, same) at h))) (λ n. simp others (w.spent q (was q n l) (rw other at h) (rw other at e)));
  }

  pub waits_new : (O : List Port) (Q : List (List Batch)) → Waits all no P S I O Q → Waits all no (put no_pipe P p v) (put no_source S p src) (put [] I p xs) O Q
  waits_new O Q w = record {
    on_io = λ q l h. by_eq q p (λ e. rw e (simp sames (rw (runs, asks)))) (λ n. simp others (w.on_io q (was q n l) tt));
    on_inlet = λ q i l h. by_eq q p (λ e. clash (cc (runs, rw (e, state_same) at h)))
        (λ n. let y = w.on_inlet q i (was q n l) (rw state_other at h) in (y.0, rw other y.1, y.2));
    on_outlet = λ q l h. by_eq q p (λ e. clash (cc (runs, rw (e, state_same) at h))) (λ n. w.on_outlet q (was q n l) (rw state_other at h));
  }

  pub quiet_new : (O : List Port) (T : List InletSet) → Quiet all no P O T → Quiet all no (put no_pipe P p v) O (put [] T p [])
  quiet_new O T w = record { marks = w.marks; touches = λ q l h. by_eq q p (λ e. rw (e, same)) (λ n. rw other (w.touches q (was q n l) h)); present = w.present }

  pub delivered_new : (j : Job) (Q : List (List Batch)) (R : List Read) (outs : List Output) → Delivered j P G Q R outs
      → Delivered j (put no_pipe P p v) (put no_stage G p (new_stage cut)) Q R outs
  delivered_new j Q R outs w = record {
    queues = w.queues;
    outputs = w.outputs;
    stages = λ q l h. by_eq q p (λ e. clash (cc (rw (e, same) at h))) (λ n. w.stages q (was q n l) (rw other at h));
    solid = w.solid;
    solid_outs = w.solid_outs;
  }

module _ (p : ℕ) (low : p < slot_places) (src : Source) (cut : Option ℕ) (xs : List ℕ) (P : List Pipeline) (S : List Source) (G : List Stage) (I : List (List ℕ))
    (dead : (pipe_of P p).live ≡ false) (plain : is_source src ≡ false) where
  abbrev P' : List Pipeline
  P' = put no_pipe P p fresh

  abbrev S' : List Source
  S' = put no_source S p src

  abbrev G' : List Stage
  G' = put no_stage G p (new_stage cut)

  abbrev I' : List (List ℕ)
  I' = put [] I p xs

  down : (q : ℕ) → q ≢ p → Live P' q → Live P q
  down q n l = rw other at l

  up : (q : ℕ) → Live P q → Live P' q
  up q l = by_eq q p (λ e. rw (e, same)) (λ n. rw other l)

  live_apart : (q : ℕ) → Live P q → q ≢ p
  live_apart q l e = clash (cc (dead))

  shared_apart : (q : ℕ) → slot_places ≤ q → q ≢ p
  shared_apart q h e = omega arith

  -- the new source is none of a segment
  not_source : (q : ℕ) → is_source (source_of S' q) ≡ true → q ≢ p
  not_source q h e = clash (cc (plain, rw (e, same) at h))

  pub pipes_lay : (j : Job) (A : List (Option ℕ)) → SlotPipe j A p src (new_stage cut) xs → Pipes j A P S G I → Pipes j A P' S' G' I'
  pipes_lay j A sp w = record {
    bound = λ q l. by_eq q p (λ e. omega arith) (λ n. w.bound q (down q n l));
    slots = λ q l b. by_eq q p (λ e. rw e (simp sames sp)) (λ n. simp others (w.slots q (down q n l) b));
    shares = λ q l b. let n = shared_apart q b in simp others (w.shares q (down q n l) b);
    stages = λ q l h. by_eq q p (λ e. clash (cc (rw (e, same) at h))) (λ n. simp others (w.stages q (down q n l) (rw other at h)));
  }

  pub ports_lay : (j : Job) (A : List (Option ℕ)) (k : ℕ) (to : ℕ → ℕ → ℕ → Type 0) (O : List Port) (Q : List (List Batch)) → slot_at_place p ≡ k → (port_of O p).there ≡ false
      → ((h x : ℕ) → At xs h x → There O x × (reader_of O x ≡ pipe p h)) → ((x q h : ℕ) → to x q h → (q ≡ p) × At xs h x)
      → LowPorts j A k to P I O Q → LowPorts j A k none_to P' I' O Q
  ports_lay j A k to O Q here gone ins names w = record {
    alive = λ q l b c. by_eq q p (λ e. absurd (alone (rw e at c))) (λ n. w.alive q (down q n l) b c);
    opens = λ x b t e. up x (w.opens x b t e);
    inlets = λ q h x l a. by_eq q p (λ e. rw e (ins h x (rw (e, same) at a))) (λ n. w.inlets q h x (down q n l) (rw other at a));
    readers = λ x q h t e. inl (read x q h (w.readers x q h t e));
    slots = w.slots;
    roots = w.roots;
    absent = w.absent;
    blank = w.blank;
  }
    where
      alone : Connected k O p → ⊥
      alone (inl n) = n here
      alone (inr t) = clash (cc (gone))

      read : (x q h : ℕ) → (Live P q × At (inlets_of I q) h x) ⊎ to x q h → Live P' q × At (inlets_of I' q) h x
      read x q h (inl y) = let n = live_apart q y.0 in (up q y.0, rw other y.1)
      read x q h (inr y) = let z = names x q h y in (rw (z.0, same), rw (z.0, same) z.1)

  share_lay : (j : Job) (busy : ℕ → Type 0) (unb : List Bool) (O : List Port) (Q : List (List Batch)) (x : ℕ) → SharePort j busy unb P S O Q x → SharePort j busy unb P' S' O Q x
  share_lay j busy unb O Q x w = record {
    leaf = w.leaf;
    split = w.split;
    is = w.is;
    below = w.below;
    is_leaf = w.is_leaf;
    pair = w.pair;
    shared = w.shared;
    built = w.built;
    holds = w.holds;
    opens = λ e. let y = w.opens e in let n = live_apart y.0 y.1.0 in (y.0, (up y.0 y.1.0, y.1.1, y.1.2), rw (other no_source S p y.0 src n) y.2);
    shuts = λ e q y. w.shuts e q (down q (shared_apart q y.1) y.0, y.1, y.2);
    full = w.full;
    unslotted = w.unslotted;
  }

  pub shares_lay : (j : Job) (busy : ℕ → Type 0) (next : ℕ) (unb : List Bool) (O : List Port) (Q : List (List Batch)) → Shares j busy next unb P S O Q → Shares j busy next unb P' S' O Q
  shares_lay j busy next unb O Q w = record { ports = λ x b t. share_lay j busy unb O Q x (w.ports x b t); waits = w.waits; unbuilt = w.unbuilt }

  pub flow_lay : (j : Job) (A : List (Option ℕ)) (O : List Port) (Q : List (List Batch)) (F W : ℕ → List Row)
      → W p ≡ will F (pieces_in j p (split_in A (slot_at_place p))) src (new_stage cut) xs
      → (src ≡ pack → (i h x y : ℕ) → At xs i x → At xs h y → length (F x) ≡ length (F y)) → Flow j A P S G I O Q places [] F W → Flow j A P' S' G' I' O Q places [] F W
  unfolding given
  flow_lay j A O Q F W d even w = record {
    port = w.port;
    share = w.share;
    pipes = λ q b l me. by_eq q p (λ e. rw e (simp sames d)) (λ n. simp others (w.pipes q b (down q n l) me));
    mine = λ b. absurd (omega arith);
    ends = λ q b l h. by_eq q p (λ e. clash (cc (rw (e, same) at h))) (λ n. w.ends q b (down q n l) (rw other at h));
    even = λ q i h x y l e a b. by_eq q p
        (λ d. even (rw (d, same) at e) i h x y (rw (d, same) at a) (rw (d, same) at b))
        (λ n. w.even q i h x y (down q n l) (rw other at e) (rw other at a) (rw other at b));
  }

  pub queued_lay : (who : ℕ → Type 0) (ready : List ℕ) → (who p → ⊥) → Queued who P ready → Queued who P' ready
  queued_lay who ready idle w = record {
    flags = λ q l h. by_eq q p (λ e. absurd (idle (rw e at h))) (λ n. simp others (w.flags q (down q n l) h));
    counts = λ q. by_eq q p (λ e. rw (e, same) (w.counts p ∙ rw dead)) (λ n. rw other (w.counts q));
  }

  pub packs_lay : (O : List Port) (Q : List (List Batch)) (C W : List InletSet) (E : List (List Seen)) → Packs P S I O Q C W E
      → Packs P' S' I' O Q (put [] C p (all_inlets (length xs))) (put [] W p (if is_pack_source src then all_inlets (length xs) else []))
      (put [] E p (if is_pack_source src then replicate (length xs) waiting else []))
  packs_lay O Q C W E w = record {
    size = λ q l e. by_eq q p (λ d. let z : src ≡ pack = rw (d, same) at e in rw d (simp same (rw z (length-replicate (length xs) waiting)))) (λ n. simp other (w.size q (down q n l) (rw other at e)));
    unique = λ q l e. by_eq q p (λ d. let z : src ≡ pack = rw (d, same) at e in rw d (simp same (rw z (all_differ (length xs))))) (λ n. simp other (w.unique q (down q n l) (rw other at e)));
    within = λ q i l e h. by_eq q p
        (λ d. let z : src ≡ pack = rw (d, same) at e in rw (d, same) (all_low (length xs) i (rw (d, same, z) at h)))
        (λ n. rw other (w.within q i (down q n l) (rw other at e) (rw other at h)));
    known = λ q i l e h. by_eq q p (λ d. rw (d, same) (all_low (length xs) i (rw (d, same) at h))) (λ n. rw other (w.known q i (down q n l) (rw other at e) (rw other at h)));
    waits = λ q i x l e a. by_eq q p
        (λ d. let z : src ≡ pack = rw (d, same) at e in rw d (simp same (rw (z, get_replicate waiting (length xs) i) (every i x (rw (d, same) at a)))))
        (λ n. simp other (w.waits q i x (down q n l) (rw other at e) (rw other at a)));
    seen = λ q i x l e a. by_eq q p (λ d. inl (rw (d, same) (every i x (rw (d, same) at a)))) (λ n. simp other (w.seen q i x (down q n l) (rw other at e) (rw other at a)));
  }
    where
      every : (i x : ℕ) → At xs i x → has i (all_inlets (length xs)) ≡ true
      every i x a = inlet_has (length xs) i (at_below xs i x a)

  pub reads_lay : (j : Job) (R : List Read) → Reads j P S R → Reads j P' S' R
  reads_lay j R w = record {
    leaf = w.leaf;
    once = w.once;
    owned = λ r q h e. let y = w.owned r q h e in let n = live_apart q y.1 in (y.0, up q y.1, rw (other no_source S p q src n) y.2, y.3);
    pended = λ q l h. by_eq q p (λ e. clash (cc (pend_plain src plain, rw (e, same) at h))) (λ n. w.pended q (down q n l) (rw other at h));
    unasked = λ q e r b l h. let n = not_source q (ap is_source h) in w.unasked q e r b (down q n l) (rw other at h);
    came = λ q e b l h c. let n = not_source q (ap is_source h) in w.came q e b (down q n l) (rw other at h) (rw other at c);
    fresh = λ q e b l h. let n = not_source q (ap is_source h) in w.fresh q e b (down q n l) (rw other at h);
  }

  pub once_lay : (j : Job) (next : ℕ) (unb : List Bool) (R : List Read) → Once j next unb P S R → Once j next unb P' S' R
  once_lay j next unb R w = record {
    single = λ a b l h c d. let n = not_source a c in let o = not_source b d in w.single a b (down a n l) (down b o h) (rw other at c) (rw other at d);
    unread = w.unread;
    unsourced = λ l q a b h c. let n = not_source q c in w.unsourced l q a b (down q n h) (rw other at c);
  }

-- one more is laid only
pub numbers_lay : (k n : ℕ) (P : List Pipeline) (O : List Port) (freed : List ℕ) (made : ℕ) → k < 3 → n < 24 → (pipe_of P (place k n)).live ≡ false → (port_of O (place k n)).there ≡ false
    → LowNumbers k P O freed made → LowNumbers k (put no_pipe P (place k n) fresh) O freed made
numbers_lay k n P O freed made b few dead gone w =
    let P' = put no_pipe P (place k n) fresh in
    let f : ℕ → ℕ = λ i. bit ((pipe_of P' (place k i)).live && not (port_of O (place k i)).there) in
    let g : ℕ → ℕ = λ i. bit ((pipe_of P (place k i)).live && not (port_of O (place k i)).there) in
    let s = sum_change f g n 0 24 (omega arith) (omega arith) (λ i d. let a = place_apart k i n d in simp other) in
    let one : f n ≡ 1 = rw (same, gone) in
    let none_yet : g n ≡ 0 = rw dead in
    let l = lives_put P (place k n) fresh in
    let z : bit (pipe_of P (place k n)).live ≡ 0 = rw dead in
    record {
      size = put_length no_pipe P (place k n) fresh (let y = w.size in omega arith) ∙ w.size;
      balance = omega (arith, s, one, none_yet, l, z, w.balance);
      few = w.few;
    }
