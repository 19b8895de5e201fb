-- The test of a source keeps `Fits`.
use Rattle.std.specs.Prelude.{◌≡◌, refl, ◌⊎◌, Bool, true, false, ◌||◌, List, [], ◌∷◌, ◌++◌, ℕ, zero, suc, ◌+◌, ◌-◌, ◌<◌, ◌≤◌, min, length, leb, ltb, if◌then◌else◌}
use Rattle.std.proofs.Common.{sym, ap, ◌∙◌, inl, inr, arith, length-append, leb-false, ltb-true}
use Rattle.std.proofs.Math.Option.{Option, some}
use Rattle.rules.specs.Table.{get, put, up_from}
use Rattle.rules.specs.Job.{is_segment}
use Rattle.rules.specs.Plan.{node_of, first_leaf}
use Rattle.rules.specs.InletSet.{InletSet}
use Rattle.rules.specs.Port.{Seen, waiting, ready, ended}
use Rattle.rules.specs.Operators.{Blocked, io, inlet, blocked, SourceReady, go, stays, Source, segment, concat, pack, concat_at, concat_ready, noted, pack_ready}
use Rattle.rules.specs.Machine.{Machine, Read, node_at_place, places, max_reads, source_at, inlets_at, shows, set_source, set_waits, set_seen}
use Rattle.rules.specs.Drive.{ask, observe, observe_all, test_pack, looked, test_concat, test_segment, test_source}
use Rattle.laws.specs.Table.{by_bool, by_eq, clash, same, other, put_length}
use Rattle.laws.specs.Rows.{All}
use Rattle.laws.specs.Rising.{has_head, has_tail}
use Rattle.laws.specs.KidPlaces.{All-map}
use Rattle.order.specs.Inv.{Live, source_of}
use Rattle.order.specs.Outlets.{leaf_is}
use Rattle.order.specs.Sets.{remove_other, remove_unique}
use Rattle.order.specs.RangeParts.{SetFits, PackFits, SourceFits, StateFits, Fits}
use Rattle.order.specs.RangeMoves.{bound, set_source_lem, set_noted, with_reads_lem}
use Rattle.order.specs.RangeWake.{insert_fits, touch_fits}
use Rattle.order.specs.RangePorts.{Calm, all_more}
use Rattle.order.specs.ConcatTest.{concat_at_lem}
use Rattle.order.specs.Observe.{noted_same, noted_other}
use Rattle.order.specs.Leaves.{first_leaf_lem, first_first}

-- Requests

-- the source of a live pipeline, where it is known
pub source_at_lem : (m : Machine) (p : ℕ) (s : Source) → Fits m → Live m.pipes p → source_at m p ≡ s
    → SourceFits m.job m.active p (node_of m.job (node_at_place p)).kind s (inlets_at m p) (get [] m.waits p) (get [] m.seen p)
source_at_lem m p s f l e = rw e at (f.pipes p l).source

-- a read of the source's segment is asked for
pub ask_fits : (m : Machine) (p : ℕ) → Fits m → Live m.pipes p → is_segment (node_of m.job (node_at_place p)).kind ≡ true → length m.news < 24 → Fits (ask p m)
unfolding ask
ask_fits m p f l k n =
    let g = leaf_is m.job (node_at_place p) (f.pipes p l).place.0 k in
    let r : Read = record { leaf = first_leaf m.job (node_at_place p); owner = some p; delivered = false } in
    let z : length (m.reads ++ r ∷ []) ≡ length m.reads + 1 = length-append m.reads (r ∷ []) in
    by_bool (leb max_reads (length m.reads))
    (λ e. rw (e, ask) f)
    (λ e. let b : length m.reads < max_reads = leb-false max_reads (length m.reads) e in
    rw (e, ask) (with_reads_lem m (m.reads ++ r ∷ []) (m.news ++ length m.reads ∷ []) f (
      omega (arith, z, b),
      all_more (λ (x : Read). _) m.reads r f.reads.1 ((first_leaf_lem m.job (node_at_place p) g).0, first_first m.job (node_at_place p) g),
      all_more (λ (x : Read). (q : ℕ) → x.owner ≡ some q → q < places) m.reads r f.reads.2 (λ q d. owner p q (bound m p f l) d),
    ) (
      omega (arith, length-append m.news (length m.reads ∷ [])),
      all_more (λ i. i < length (m.reads ++ r ∷ [])) m.news (length m.reads) (All-map (λ i. i < length m.reads) (λ i. i < length (m.reads ++ r ∷ [])) (λ i h. omega (arith, z)) m.news f.news.1) (omega (arith, z)),
    )))
  where
    owner : (x y : ℕ) → x < places → ◌≡◌ {A = Option ℕ} (some x) (some y) → y < places
    owner x y h d = let q : x ≡ y = cc in omega arith

pub ask_calm : (m : Machine) (p : ℕ) → ((ask p m).job ≡ m.job) × ((ask p m).pipes ≡ m.pipes) × ((ask p m).dirty ≡ m.dirty) × ((ask p m).queues ≡ m.queues)
unfolding ask
ask_calm m p = by_bool (leb max_reads (length m.reads)) (λ e. rw (e, ask) (refl, refl, refl, refl)) (λ e. rw (e, ask) (refl, refl, refl, refl))

-- Inlets looked at

-- members of a set are below its bound
pub set_all : (n : ℕ) (s : InletSet) → SetFits n s → All (λ i. i < n) s
set_all n [] f = tt
set_all n (i ∷ s) f = (f.1 i (has_head i s), set_all n s (f.0.1, λ h q. by_eq h i (λ d. f.1 h (rw d (has_head i s))) (λ d. f.1 h (has_tail h i s d ∙ q))))

pub noted_set : (n i : ℕ) (s : Seen) (w : InletSet) → i < n → SetFits n w → SetFits n (noted s i w)
noted_set n i waiting w h f = insert_fits n i w h f
noted_set n i ready w h f = (remove_unique i w f.0, λ k q. by_eq k i (λ d. rw d h) (λ d. f.1 k (sym (remove_other i k w d) ∙ q)))
noted_set n i ended w h f = (remove_unique i w f.0, λ k q. by_eq k i (λ d. rw d h) (λ d. f.1 k (sym (remove_other i k w d) ∙ q)))

-- one inlet is noted
note_fits : (n i : ℕ) (s : Seen) (w : InletSet) (es : List Seen) → i < n → PackFits n w es → PackFits n (noted s i w) (put waiting es i s)
note_fits n i s w es h f = record {
  size = put_length waiting es i s (omega (arith, f.size)) ∙ f.size;
  set = noted_set n i s w h f.set;
  waits = λ k b. by_eq k i (λ d. rw (d, same) (noted_same s i w f.set.0)) (λ d. rw (noted_other s i k w d, other) (f.waits k b));
}

pub observe_fits : (m : Machine) (p i : ℕ) → Fits m → Live m.pipes p → source_at m p ≡ pack → i < length (inlets_at m p) → Fits (observe p i m)
observe_fits m p i f l e h =
    let s = shows m p i in
    let w = noted s i (get [] m.waits p) in
    let es = put waiting (get [] m.seen p) i s in
    let g = source_at_lem m p pack f l e in
    let n = note_fits (length (inlets_at m p)) i s (get [] m.waits p) (get [] m.seen p) h g.3 in
    touch_fits (set_seen p es (set_waits p w m)) p (i ∷ []) (set_noted m p w es f l (rw e (g.0, g.1, g.2, n))) l (h, tt)

observes_fits : (is : List ℕ) (p : ℕ) (m : Machine) → Fits m → Live m.pipes p → source_at m p ≡ pack → All (λ i. i < length (inlets_at m p)) is → Fits (observe_all p is m)
unfolding observe_all
observes_fits [] p m f l e a = f
observes_fits (i ∷ is) p m f l e a = observes_fits is p (observe p i m) (observe_fits m p i f l e a.0) l e a.1

observes_calm : (is : List ℕ) (p : ℕ) (m : Machine) → Calm m (observe_all p is m) × ((observe_all p is m).sources ≡ m.sources) × ((observe_all p is m).queues ≡ m.queues)
unfolding observe_all
observes_calm [] p m = ((refl, refl, refl, refl), refl, refl)
observes_calm (i ∷ is) p m = observes_calm is p (observe p i m)

-- The test

-- what a source answers, and the state after it
pub record Tested (p : ℕ) (m : Machine) (r : SourceReady × Machine) : Type 0 where
  -- the one that asks for a read has place to tell of it
  pub fits : (r.0 ≡ go) ⊎ (length m.news < 24) → Fits r.1
  pub job : r.1.job ≡ m.job
  pub pipes : r.1.pipes ≡ m.pipes
  pub queues : r.1.queues ≡ m.queues
  pub dirty : r.1.dirty ≡ m.dirty
  pub news : r.0 ≡ go → r.1.news ≡ m.news
  pub stays : (b : Blocked) → r.0 ≡ stays b → StateFits p (length (inlets_at r.1 p)) (blocked b)

pub up_below : (n i k : ℕ) → i + k ≤ n → All (λ x. x < n) (up_from i k)
unfolding up_from
up_below n i zero h = tt
up_below n i (suc k) h = (omega arith, up_below n (suc i) k (omega arith))

concat_stays : (f : ℕ → Seen) (n i : ℕ) (b : Blocked) (s : Seen) → f i ≡ s → concat_ready f n i ≡ stays b → (i < n) × (b ≡ inlet i)
concat_stays f n i b s e q = by_bool (ltb i n) (λ h. within h s e) (λ h. clash (cc))
  where
    within : ltb i n ≡ true → (t : Seen) → f i ≡ t → (i < n) × (b ≡ inlet i)
    within h waiting d = (ltb-true i n h, cc)
    within h ready d = clash (cc)
    within h ended d = clash (cc)

segment_test : (m : Machine) (p e : ℕ) (a b : Bool) → Fits m → Live m.pipes p → source_at m p ≡ segment a b e → Tested p m (test_segment p a b e m)
segment_test m p e true b f l q = record { fits = λ _. f; job = refl; pipes = refl; queues = refl; dirty = refl; news = λ d. refl; stays = λ c d. io_fits (b || ltb 0 e) c d }
  where
    io_fits : (t : Bool) (c : Blocked) → (if t then go else stays io) ≡ stays c → StateFits p (length (inlets_at m p)) (blocked c)
    io_fits true c d = clash (cc)
    io_fits false io d = tt
    io_fits false (inlet i) d = clash (cc)
segment_test m p e false b f l q =
    let s = source_at_lem m p (segment false b e) f l q in
    let m' = set_source p (segment true b e) m in
    let c = ask_calm m' p in
    record {
      fits = asks s;
      job = c.0;
      pipes = c.1;
      queues = c.3;
      dirty = c.2;
      news = λ d. clash (cc);
      stays = λ x d. blocks x d;
    }
  where
    asks : SourceFits m.job m.active p (node_of m.job (node_at_place p)).kind (segment false b e) (inlets_at m p) (get [] m.waits p) (get [] m.seen p)
        → (◌≡◌ {A = SourceReady} (stays io) go) ⊎ (length m.news < 24) → Fits (ask p (set_source p (segment true b e) m))
    asks s (inl d) = clash (cc)
    asks s (inr h) = ask_fits (set_source p (segment true b e) m) p (set_source_lem m p (segment true b e) f l s) l s.0 h

    blocks : (c : Blocked) → ◌≡◌ {A = SourceReady} (stays io) (stays c) → StateFits p (length (inlets_at (ask p (set_source p (segment true b e) m)) p)) (blocked c)
    blocks io d = tt
    blocks (inlet i) d = clash (cc)

concat_test : (m : Machine) (p i : ℕ) → Fits m → Live m.pipes p → source_at m p ≡ concat i → Tested p m (test_concat p i m)
concat_test m p i f l q =
    let n = length (inlets_at m p) in
    let s = source_at_lem m p (concat i) f l q in
    let j = concat_at (shows m p) (n - i) i in
    let b : j ≤ n = omega (arith, concat_at_lem (shows m p) (n - i) i, s.0) in
    record {
      fits = λ _. touch_fits (set_source p (concat j) m) p (looked n i j) (set_source_lem m p (concat j) f l (b, s.1, s.2)) l (up_below n i (min (suc j) n - i) (omega (arith, s.0)));
      job = refl;
      pipes = refl;
      queues = refl;
      dirty = refl;
      news = λ d. refl;
      stays = λ c d. let r = concat_stays (shows m p) n j c (shows m p j) refl d in let e = r.1 in rw e r.0;
    }

pack_stays : (n : ℕ) (w : InletSet) (b : Blocked) → SetFits n w → pack_ready w ≡ stays b → StateFits 0 n (blocked b)
unfolding pack_ready
pack_stays n [] b f e = clash (cc)
pack_stays n (i ∷ w) io f e = tt
pack_stays n (i ∷ w) (inlet k) f e = let d : i ≡ k = cc in rw (← d) (f.1 i (has_head i w))

any_place : (p q n : ℕ) (b : Blocked) → StateFits p n (blocked b) → StateFits q n (blocked b)
any_place p q n io f = f
any_place p q n (inlet i) f = f

pack_test : (m : Machine) (p : ℕ) → Fits m → Live m.pipes p → source_at m p ≡ pack → Tested p m (test_pack p m)
pack_test m p f l q =
    let is = get [] m.changed p in
    let m' = observe_all p is m in
    let g : Fits m' = observes_fits is p m f l q (set_all (length (inlets_at m p)) is (f.pipes p l).changed) in
    let c = observes_calm is p m in
    let k : Live m'.pipes p = rw c.0.1 l in
    let s = source_at_lem m' p pack g k (ap (λ (t : List Source). source_of t p) c.1 ∙ q) in
    record {
      fits = λ _. g;
      job = c.0.0;
      pipes = c.0.1;
      queues = c.2;
      dirty = c.0.3;
      news = λ d. c.0.2;
      stays = λ b d. any_place 0 p (length (inlets_at m' p)) b (pack_stays (length (inlets_at m' p)) (get [] m'.waits p) b s.3.set d);
    }

-- whatever the source is
pub test_fits : (m : Machine) (p : ℕ) (s : Source) → Fits m → Live m.pipes p → source_at m p ≡ s → Tested p m (test_source p s m)
test_fits m p (segment a b e) f l q = segment_test m p e a b f l q
test_fits m p (concat i) f l q = concat_test m p i f l q
test_fits m p pack f l q = pack_test m p f l q
