-- What a step tries, case by case, and that each action finds its state in range.
use Rattle.std.specs.Prelude.{◌≡◌, refl, Bool, true, false, not, List, [], ◌∷◌, ℕ, ◌<◌, ◌≤◌, length, drop}
use Rattle.std.proofs.Math.Option.{none, some}
use Rattle.std.proofs.Common.{arith, lt-ltb, le-ltb}
use Rattle.std.proofs.Math.ListN.{get_elem?}
use Rattle.rules.specs.Table.{find, get}
use Rattle.rules.specs.Job.{Node}
use Rattle.rules.specs.Plan.{node_of}
use Rattle.rules.specs.Machine.{Machine, Pipeline, Read, no_read, pipe_at, live, set_pipe, with_ready, with_dirty, with_news}
use Rattle.rules.specs.Wake.{with_queued}
use Rattle.rules.specs.Drive.{run}
use Rattle.rules.specs.Scan as rule
use Rattle.laws.specs.Table.{by_bool, clash}
use Rattle.order.specs.Inv.{Live}
use Rattle.order.specs.Ranged.{Ranged}
use Rattle.order.specs.RangeFits.{fits, ranged}
use Rattle.order.specs.RangeMoves.{set_pipe_lem, lives_on, with_ready_lem, with_dirty_lem}
use Rattle.driver.specs.Run.{Runs}

-- no output held, no new read, no dirty slot
pub record Quiet (m : Machine) : Type 0 where
  pub outputs : m.outputs ≡ []
  pub news : m.news ≡ []
  pub dirty : m.dirty ≡ []

-- a pipeline runs, if it lives
abbrev pub ran : ℕ → Machine → Machine
ran p m = elim (live m p) [ false ↦ m | true ↦ run p (set_pipe p (with_queued false (pipe_at m p)) m) ]

-- Lists by their first entry

pub none_first : (l : List ℕ) → get_elem? l 0 ≡ none → l ≡ []
none_first [] e = refl
none_first (x ∷ l) e = clash (cc)

pub one_first : (l : List ℕ) (x : ℕ) → get_elem? l 0 ≡ some x → l ≡ x ∷ drop 1 l
one_first [] x e = clash (cc)
one_first (y ∷ l) x e = let d : y ≡ x = cc in rw d

-- The newest ready pipeline

pub ran_not : (p : ℕ) (x : Pipeline) (m : Machine) → x ≡ pipe_at m p → not x.live ≡ true → m ≡ ran p m
ran_not p x m e d = on_false (live m p) (dead x d e)
  where
    dead : (y : Pipeline) → not y.live ≡ true → y ≡ pipe_at m p → live m p ≡ false
    dead y n q = by_bool (live m p) (λ l. clash (cc (rw q at n, l))) (λ l. l)

    on_false : (b : Bool) → b ≡ false → m ≡ elim b [ false ↦ m | true ↦ run p (set_pipe p (with_queued false (pipe_at m p)) m) ]
    on_false true q = clash (cc)
    on_false false q = refl

pub is_live : (p : ℕ) (x : Pipeline) (m : Machine) → x ≡ pipe_at m p → not x.live ≡ false → Live m.pipes p
is_live p x m e d = by_bool (live m p) (λ l. l) (λ l. clash (cc (rw e at d, l)))

pub ran_is : (p : ℕ) (x v : Pipeline) (m n : Machine) → x ≡ pipe_at m p → not x.live ≡ false → v ≡ with_queued false x → n ≡ set_pipe p v m → run p n ≡ ran p m
ran_is p x v m n e d q w = rw (w, q, e) (on_true (live m p) (is_live p x m e d))
  where
    on_true : (b : Bool) → b ≡ true →
        run p (set_pipe p (with_queued false (pipe_at m p)) m) ≡ elim b [ false ↦ m | true ↦ run p (set_pipe p (with_queued false (pipe_at m p)) m) ]
    on_true true q = refl
    on_true false q = clash (cc)

pub runs_now : (p : ℕ) (x v : Pipeline) (m n : Machine) → Ranged m → Quiet m → x ≡ pipe_at m p → not x.live ≡ false → v ≡ with_queued false x →
    n ≡ set_pipe p v m
    → Runs p n × (length n.dirty < 3)
runs_now p x v m n r u e d q w =
    let l = is_live p x m e d in
    let f = fits m r in
    let a = u.news in
    let b = u.dirty in
    rw (w, q, e) (
      record {
        ranged = ranged (set_pipe p (with_queued false (pipe_at m p)) m) (set_pipe_lem m p (with_queued false (pipe_at m p)) f l l refl (f.pipes p l).state);
        live = lives_on m.pipes p p (with_queued false (pipe_at m p)) l l;
        news = rw a (omega arith);
      },
      rw b (omega arith),
    )

-- taken off the stack
pub pop_ready : (p : ℕ) (m n : Machine) → Ranged m → m.ready ≡ p ∷ drop 1 m.ready → n ≡ with_ready (drop 1 m.ready) m → Ranged n × (p < 96)
pop_ready p m n r e w =
    let f = fits m r in
    let z = rw e at f.ready in
    rw w (ranged (with_ready (drop 1 m.ready) m) (with_ready_lem m (drop 1 m.ready) f (omega (arith, z.0), z.1.1)), z.1.0)

pub ready_rests : (m : Machine) → m.ready ≡ [] → rule.answers (rule.at_rest m) ≡ rule.from_ready m
unfolding rule.from_ready
ready_rests m e = by m.ready e
  where
    by : (l : List ℕ) → l ≡ [] → rule.answers (rule.at_rest m) ≡ elim l [ [] ↦ rule.answers (rule.at_rest m) | p ∷ ps ↦ rule.more (rule.run_next p ps m) ]
    by [] d = refl
    by (x ∷ l) d = clash (cc)

pub ready_runs : (p : ℕ) (m n k : Machine) → m.ready ≡ p ∷ drop 1 m.ready → n ≡ with_ready (drop 1 m.ready) m → k ≡ ran p n →
    rule.more k ≡ rule.from_ready m
unfolding rule.from_ready rule.run_next
ready_runs p m n k e w q = rw (q, w) (by m.ready e)
  where
    by : (l : List ℕ) → l ≡ p ∷ drop 1 m.ready →
        rule.more (ran p (with_ready (drop 1 m.ready) m)) ≡ elim l [ [] ↦ rule.answers (rule.at_rest m) | x ∷ xs ↦ rule.more (rule.run_next x xs m) ]
    by [] d = clash (cc)
    by (x ∷ l) d = let a : x ≡ p = cc in let b : l ≡ drop 1 m.ready = cc in rw (a, b)

-- A free slot and a next split

pub splits_none : (m : Machine) → length m.job.splits ≤ m.next → rule.from_ready m ≡ rule.from_splits m
unfolding rule.from_splits
splits_none m h = rw (le-ltb m.next (length m.job.splits) h, rule.from_splits)

pub splits_full : (m : Machine) → m.next < length m.job.splits → find (rule.is_free m) (rule.slots_of m) ≡ none → rule.from_ready m ≡ rule.from_splits m
unfolding rule.from_splits
splits_full m h e = rw (lt-ltb m.next (length m.job.splits) h, rule.from_splits, e)

pub splits_one : (k : ℕ) (m n : Machine) → m.next < length m.job.splits → find (rule.is_free m) (rule.slots_of m) ≡ some k → n ≡ rule.activate k m →
    rule.more n ≡ rule.from_splits m
unfolding rule.from_splits
splits_one k m n h e w = rw (w, lt-ltb m.next (length m.job.splits) h, rule.from_splits, e)

-- The newest dirty slot

pub dirty_none : (m : Machine) → m.dirty ≡ [] → rule.from_splits m ≡ rule.from_dirty m
unfolding rule.from_dirty
dirty_none m e = by m.dirty e
  where
    by : (l : List ℕ) → l ≡ [] → rule.from_splits m ≡ elim l [ [] ↦ rule.from_splits m | k ∷ ks ↦ rule.more (rule.advance k (with_dirty ks m)) ]
    by [] d = refl
    by (x ∷ l) d = clash (cc)

pub pop_dirty : (k : ℕ) (m n : Machine) → Ranged m → m.dirty ≡ k ∷ drop 1 m.dirty → n ≡ with_dirty (drop 1 m.dirty) m → Ranged n × (k < 3)
pop_dirty k m n r e w =
    let f = fits m r in
    let z = rw e at f.dirty in
    rw w (
      ranged (with_dirty (drop 1 m.dirty) m) (with_dirty_lem m (drop 1 m.dirty) f (omega (arith, z.0), z.1.1)),
      omega (arith, z.1.0, r.job.slots_high),
    )

pub dirty_one : (k : ℕ) (m n j : Machine) → m.dirty ≡ k ∷ drop 1 m.dirty → n ≡ with_dirty (drop 1 m.dirty) m → j ≡ rule.advance k n →
    rule.more j ≡ rule.from_dirty m
unfolding rule.from_dirty
dirty_one k m n j e w q = rw (q, w) (by m.dirty e)
  where
    by : (l : List ℕ) → l ≡ k ∷ drop 1 m.dirty → rule.more (rule.advance k (with_dirty (drop 1 m.dirty) m))
        ≡ elim l [ [] ↦ rule.from_splits m | x ∷ xs ↦ rule.more (rule.advance x (with_dirty xs m)) ]
    by [] d = clash (cc)
    by (x ∷ l) d = let a : x ≡ k = cc in let b : l ≡ drop 1 m.dirty = cc in rw (a, b)

-- A new read

pub news_none : (m : Machine) → m.news ≡ [] → rule.from_dirty m ≡ rule.from_reads m
unfolding rule.from_reads
news_none m e = by m.news e
  where
    by : (l : List ℕ) → l ≡ [] → rule.from_dirty m
        ≡ elim l [ [] ↦ rule.from_dirty m | r ∷ rs ↦ rule.answers (rule.says (rule.read r (rule.segment_of m r)) (with_news rs m)) ]
    by [] d = refl
    by (x ∷ l) d = clash (cc)

pub new_known : (r : ℕ) (m : Machine) → Ranged m → m.news ≡ r ∷ drop 1 m.news → r < length m.reads
new_known r m g e = (rw e at g.lists.news).0

pub news_one : (r g : ℕ) (m n : Machine) → m.news ≡ r ∷ drop 1 m.news → g ≡ rule.segment_of m r → n ≡ with_news (drop 1 m.news) m
    → rule.answers (rule.says (rule.read r g) n) ≡ rule.from_reads m
unfolding rule.from_reads
news_one r g m n e q w = rw (q, w) (by m.news e)
  where
    by : (l : List ℕ) → l ≡ r ∷ drop 1 m.news → rule.answers (rule.says (rule.read r (rule.segment_of m r)) (with_news (drop 1 m.news) m))
        ≡ elim l [ [] ↦ rule.from_dirty m | x ∷ xs ↦ rule.answers (rule.says (rule.read x (rule.segment_of m x)) (with_news xs m)) ]
    by [] d = clash (cc)
    by (x ∷ l) d = let a : x ≡ r = cc in let b : l ≡ drop 1 m.news = cc in rw (a, b)

-- what the ready stack holds is no matter
pub quiet_ready : (l : List ℕ) (m n : Machine) → Quiet m → n ≡ with_ready l m → Quiet n
quiet_ready l m n q e = rw e (record { outputs = q.outputs; news = q.news; dirty = q.dirty })

-- the segment of a read, from what is loaded
pub segment_is : (r w : ℕ) (x : Read) (y : Node) (m : Machine) → x ≡ get no_read m.reads r → w ≡ x.leaf → y ≡ node_of m.job w →
    y.segment ≡ rule.segment_of m r
segment_is r w x y m e d q = rw (q, d, e)
