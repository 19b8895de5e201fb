-- A step from a state that rests between calls answers as it should: the invariant goes on through its inner actions, and the fuel is enough.
use Rattle.std.specs.Prelude.{◌≡◌, refl, ◌⊎◌, true, List, [], ◌∷◌, ℕ, zero, suc, ◌+◌, ◌-◌, ◌<◌, ◌≤◌, length, ltb}
use Rattle.std.proofs.Common.{sym, ap, subst, ◌∙◌, inl, arith, ltb-true, ltb-false}
use Rattle.std.proofs.Math.Logic.{inr}
use Rattle.std.proofs.Math.Bool.{false}
use Rattle.std.proofs.Math.Option.{none, some}
use Rattle.rules.specs.Table.{find, given, up_from}
use Rattle.rules.specs.Plan.{Row, node_of}
use Rattle.rules.specs.Machine.{Machine, Read, no_read, Output, with_outputs, with_news, with_dirty}
use Rattle.rules.specs.Drive.{again, drive, patience}
use Rattle.rules.specs.Check.{check}
use Rattle.rules.specs.Scan.{Turn, read, output, waits, done, Answer, says, refuses, ok, Inner, more, answers, is_free, slots_of, run_next, at_rest, from_ready, from_splits, from_dirty, from_reads, inner, segment_of, stepping, step, delivering}
use Rattle.laws.specs.Table.{by_bool, by_list, by_option, clash}
use Rattle.order.specs.RangeRun.{popped}
use Rattle.order.specs.Inv.{Live, split_in}
use Rattle.order.specs.State.{Rests, Busy, RoundOk}
use Rattle.order.specs.Begin.{ready_live, begin_ok}
use Rattle.order.specs.Rounds.{round_ok}
use Rattle.order.specs.Run.{drive_ok, run_next_ok}
use Rattle.order.specs.LowerAll.{LeafOk}
use Rattle.order.specs.Activate.{activate_ok}
use Rattle.order.specs.Serve.{advance_ok}
use Rattle.order.specs.Turns.{output_known, output_ok, read_known, read_ok}
use Rattle.order.specs.Rest.{RestOk, rest_ok}
use Rattle.order.specs.Deliver.{default_in}
use Rattle.order.specs.Reading.{Keeps, Asks, Reads-on, run_on}
use Rattle.order.specs.Between.{Serves, activate_keeps, advance_keeps}
use Rattle.order.specs.Seen.{Apart, seg_of, Grows, StepAnswer, StepOk}
use Rattle.order.specs.Base.{by_round}

-- since the step began reads have only come on, one at most, and outputs and new reads are not held at once
abbrev pub Since : ℕ → Machine → Machine → Type 0
Since told m₀ m = Grows m₀ m × Apart m × (length m.reads ≤ suc told)

grows_keeps : {a b c : Machine} → Grows a b → Keeps b c → Grows a c
grows_keeps s k = record {
  job = k.job ∙ s.job;
  size = rw k.size s.size;
  leaf = λ r h. k.leaf r ∙ s.leaf r h;
  delivered = λ r h. k.delivered r ∙ s.delivered r h;
  fresh = λ r h l. k.delivered r ∙ s.fresh r h (rw k.size at l);
}

grows_serves : {a b c : Machine} → Grows a b → Serves b c → Grows a c
grows_serves s k = record {
  job = k.job ∙ s.job;
  size = rw k.size s.size;
  leaf = λ r h. k.leaf r ∙ s.leaf r h;
  delivered = λ r h. k.delivered r ∙ s.delivered r h;
  fresh = λ r h l. k.delivered r ∙ s.fresh r h (rw k.size at l);
}

grows_asks : {a b c : Machine} → Grows a b → Asks b c → Grows a c
grows_asks {b = b} s q = record {
  job = q.job ∙ s.job;
  size = let x : length b.reads ≤ _ = q.size in let y : _ ≤ length b.reads = s.size in omega arith;
  leaf = λ r h. q.leaf r (let y = s.size in omega arith) ∙ s.leaf r h;
  delivered = λ r h. q.delivered r (let y = s.size in omega arith) ∙ s.delivered r h;
  fresh = λ r h l. by_bool (ltb r (length b.reads))
      (λ e. let k : r < length b.reads = ltb-true r (length b.reads) e in q.delivered r k ∙ s.fresh r h k)
      (λ e. q.fresh r (ltb-false r (length b.reads) e) l);
}

-- a slot that is found is free
pub found_free : (m : Machine) (xs : List ℕ) (k : ℕ) → find (is_free m) xs ≡ some k → split_in m.active k ≡ none
unfolding find given
found_free m [] k e = clash (cc)
found_free m (x ∷ xs) k e = by_bool (is_free m x)
    (λ f. let z : x ≡ k = cc (rw (f, find) at e) in by_option (split_in m.active k) (λ n. n) (λ s n. clash (cc (f, z, n))))
    (λ f. found_free m xs k (rw (f, find) at e))

pub found_below : (m : Machine) (i n k : ℕ) → find (is_free m) (up_from i n) ≡ some k → k < i + n
unfolding find up_from
found_below m i zero k e = clash (cc)
found_below m i (suc n) k e = by_bool (is_free m i)
    (λ f. let z : i ≡ k = cc (rw (f, find) at e) in omega arith)
    (λ f. let h : k < suc i + n = found_below m (suc i) n k (rw (f, find) at e) in omega arith)

-- what is asked besides the invariant: it is kept, and a number falls
pub record Sound (Good : Machine → Type 0) (μ : Machine → ℕ) : Type 0 where
  pub checks : (out : ℕ → List Row) (told : ℕ) (m : Machine) → Rests out told m → Good m → check m ≡ true
  pub brings : (out : ℕ → List Row) (told : ℕ) (m m' : Machine) (r n : ℕ) → Rests out told m → Good m → delivering r n m ≡ says ok m' → Good m'
  pub leaves : (k s : ℕ) (out : ℕ → List Row) (told : ℕ) → LeafOk k s out told
  pub ends : (p : ℕ) (ps : List ℕ) (m m' : Machine) → Good m → Live m.pipes p → m.ready ≡ p ∷ ps → drive patience p (popped p ps m) ≡ again m' → m'.fault ≡ true
  pub keeps : (m m' : Machine) → Good m → inner m ≡ more m' → m'.fault ≡ false → Good m'
  pub falls : (m m' : Machine) → Good m → inner m ≡ more m' → m'.fault ≡ false → μ m' < μ m
  pub few : (m : Machine) → Good m → μ m < patience
  pub puts : (m : Machine) (o : Output) (os : List Output) → Good m → m.outputs ≡ o ∷ os → Good (with_outputs os m)
  pub tells : (m : Machine) (r : ℕ) (rs : List ℕ) → Good m → m.news ≡ r ∷ rs → Good (with_news rs m)

-- what an inner action, or the answer, comes to
abbrev InnerOk : (Machine → Type 0) → (ℕ → List Row) → ℕ → Machine → Inner → Type 0
InnerOk Good out told m₀ (more m) = Rests out told m × Since told m₀ m
InnerOk Good out told m₀ (answers a) = StepAnswer Good out told m₀ a

none_from : (t n : ℕ) → [] ≡ up_from t n → n ≡ 0
unfolding up_from
none_from t zero e = refl
none_from t (suc n) e = clash (cc)

module _ (Good : Machine → Type 0) (μ : Machine → ℕ) (k : Sound Good μ) (out : ℕ → List Row) (told : ℕ) (m₀ : Machine) where
  module _ (m : Machine) (v : Rests out told m) (g : Good m) where
    -- nothing is new: all reads were told
    all_told : m.news ≡ [] → told ≡ length m.reads
    all_told e = let z : length m.reads - told ≡ 0 = none_from told (length m.reads - told) (sym e ∙ v.tells.1) in omega (arith, v.tells.0)

    -- a pipeline runs
    ran : Grows m₀ m → m.news ≡ [] → m.outputs ≡ [] → (p : ℕ) (ps : List ℕ) → m.ready ≡ p ∷ ps → InnerOk Good out told m₀ (more (run_next p ps m))
    ran s w o p ps e =
        let l = ready_live out told p ps m v e in
        let b : Busy p [] out told (popped p ps m) = begin_ok out told p ps m v e in
        let d : RoundOk p out told (drive patience p (popped p ps m)) = drive_ok out told p (round_ok out told p) patience (popped p ps m) b in
        by_round (drive patience p (popped p ps m))
        (λ n q. let y : Busy p [] out told n = rw q at d in clash (cc (k.ends p ps m n g l e q, y.inv.sound)))
        (λ w n q. (run_next_ok out told p (round_ok out told p) ps m v e w n q, on (run_on p ps m)))
      where
        on : Reads-on m (run_next p ps m) → Since told m₀ (run_next p ps m)
        on (inl h) = (grows_keeps s h, inr (h.news ∙ w), omega (arith, h.size, all_told w))
        on (inr h) = (grows_asks s h, inl (h.outputs ∙ o), omega (arith, h.few, all_told w))

    -- nothing is left to do
    rested : Grows m₀ m → m.news ≡ [] → (e : m.ready ≡ []) (a : Answer Turn) → RestOk out told m v e a → StepAnswer Good out told m₀ a
    rested s w e (says (read r q) n) h = absurd h
    rested s w e (says (output t b) n) h = absurd h
    rested s w e (says waits n) h = subst (λ (x : Machine). StepAnswer Good out told m₀ (says waits x)) (sym h.0) (s, (all_told w, h.1, v), inr w, g)
    rested s w e (says done n) h =
        subst (λ (x : Machine). StepAnswer Good out told m₀ (says done x)) (sym h.0) (s, (all_told w, λ t. rw (← s.job) (h.1 t), v), inr w, g)
    rested s w e (refuses i n) h = absurd h

    from_ready_lem : Grows m₀ m → m.news ≡ [] → m.outputs ≡ [] → m.dirty ≡ []
        → (ltb m.next (length m.job.splits) ≡ false) ⊎ (find (is_free m) (slots_of m) ≡ none) → InnerOk Good out told m₀ (from_ready m)
    unfolding from_ready
    from_ready_lem s w o d h = by_list m.ready
        (λ e. rw (e, from_ready) (rested s w e (at_rest m) (rest_ok out told m v e o d h)))
        (λ p ps e. rw (e, from_ready) (ran s w o p ps e))

    from_splits_lem : Grows m₀ m → m.news ≡ [] → m.outputs ≡ [] → m.dirty ≡ [] → InnerOk Good out told m₀ (from_splits m)
    unfolding from_splits
    from_splits_lem s w o d = by_bool (ltb m.next (length m.job.splits))
        (λ h. by_option (find (is_free m) (slots_of m))
        (λ e. rw (h, from_splits, e) (from_ready_lem s w o d (inr e)))
        (λ i e.
        let low : i < 0 + m.job.slots = found_below m 0 m.job.slots i e in
        let t = activate_keeps i m in
        rw (h, from_splits, e) (
          activate_ok out told m v (ltb-true m.next (length m.job.splits) h) i (k.leaves i m.next out told) (omega arith)
              (found_free m (slots_of m) i e),
          (grows_keeps s t, inr (t.news ∙ w), omega (arith, t.size, all_told w)),
        )))
        (λ h. rw (h, from_splits) (from_ready_lem s w o d (inl h)))

    from_dirty_lem : Grows m₀ m → m.news ≡ [] → m.outputs ≡ [] → InnerOk Good out told m₀ (from_dirty m)
    unfolding from_dirty
    from_dirty_lem s w o = by_list m.dirty
        (λ d. rw (d, from_dirty) (from_splits_lem s w o d))
        (λ i is d. let t = advance_keeps i (with_dirty is m) in
        rw (d, from_dirty) (
          advance_ok out told m v i is d,
          (
            grows_serves s
                (record { job = t.job; size = t.size; leaf = t.leaf; delivered = t.delivered; news = t.news }),
            inr (t.news ∙ w),
            omega (arith, t.size, all_told w),
          ),
        ))

    -- a read that was made is told
    tell : (r : ℕ) (rs : List ℕ) → m.news ≡ r ∷ rs → Grows m₀ m → length m.reads ≤ suc told → m.outputs ≡ []
        → InnerOk Good out told m₀ (answers (says (read r (segment_of m r)) (with_news rs m)))
    tell r rs e s b o =
        let q = read_known out told m v r rs e in
        let seg : segment_of m r ≡ seg_of m r = ap (λ (x : Read). (node_of m.job x.leaf).segment) (default_in no_read _ m.reads r q.1) in (
          record { job = s.job; size = s.size; leaf = s.leaf; delivered = s.delivered; fresh = s.fresh },
          (q.0, omega (arith, q.0, q.1, b), seg, read_ok out told m v r rs e),
          inl o,
          k.tells m r rs g e,
        )

    from_reads_lem : Since told m₀ m → m.outputs ≡ [] → InnerOk Good out told m₀ (from_reads m)
    unfolding from_reads
    from_reads_lem s o = by_list m.news
        (λ e. rw (e, from_reads) (from_dirty_lem s.0 e o))
        (λ r rs e. rw (e, from_reads) (tell r rs e s.0 s.2 o))

    -- an output that is held is put out
    put : (o : Output) (os : List Output) → m.outputs ≡ o ∷ os → Grows m₀ m → Apart m
        → InnerOk Good out told m₀ (answers (says (output o.split o.batch) (with_outputs os m)))
    put o os e s (inl n) = clash (cc (n, e))
    put o os e s (inr n) =
        let q = output_known out told m v o os e in (
          record { job = s.job; size = s.size; leaf = s.leaf; delivered = s.delivered; fresh = s.fresh },
          (all_told n, rw (← s.job) q.split, q.rows, q.came, output_ok out told m v o os e),
          inr n,
          k.puts m o os g e,
        )

    inner_ok : Since told m₀ m → InnerOk Good out told m₀ (inner m)
    unfolding inner
    inner_ok s = by_list m.outputs
        (λ e. rw (e, inner) (from_reads_lem s e))
        (λ o os e. rw (e, inner) (put o os e s.0 s.1))

  by_inner : {P : Type 0} (i : Inner) → ((m : Machine) → i ≡ more m → P) → ((a : Answer Turn) → i ≡ answers a → P) → P
  by_inner (more m) f h = f m refl
  by_inner (answers a) f h = h a refl

  -- the inner actions of a step
  steps_next : (f : ℕ) (m : Machine) → Rests out told m → Good m → Since told m₀ m → μ m < suc f
      → ((n : Machine) → Rests out told n → Good n → Since told m₀ n → μ n < f → StepAnswer Good out told m₀ (stepping f n))
      → StepAnswer Good out told m₀ (stepping (suc f) m)
  unfolding stepping
  steps_next f m v g s h ih = by_inner (inner m)
      (λ n e.
      let w : InnerOk Good out told m₀ (more n) = rw e at (inner_ok m v g s) in
      let z : n.fault ≡ false = w.0.sound in
      rw (e, stepping, z) (ih n w.0 (k.keeps m n g e z) w.1 (let y : μ n < μ m = k.falls m n g e z in omega arith)))
      (λ a e. let w : InnerOk Good out told m₀ (answers a) = rw e at (inner_ok m v g s) in rw (e, stepping) w)

  steps_on : (f : ℕ) (m : Machine) → Rests out told m → Good m → Since told m₀ m → μ m < f → StepAnswer Good out told m₀ (stepping f m)
  steps_on zero m v g s h = absurd (omega arith)
  steps_on (suc f) m v g s h = steps_next f m v g s h (steps_on f)

none_new : (n r : ℕ) → n ≤ r → r < n → ⊥
none_new n r h k = omega arith

-- step and delivery are as asked
pub step_ok : (Good : Machine → Type 0) (μ : Machine → ℕ) → Sound Good μ → StepOk Good
unfolding step
step_ok Good μ k = record {
  checks = k.checks;
  steps = λ out told m v t a g. rw (k.checks out told m v g, step)
      (steps_on Good μ k out told m patience m v g (
        record {
          job = refl;
          size = omega arith;
          leaf = λ r h. refl;
          delivered = λ r h. refl;
          fresh = λ r h l. absurd
              (none_new (length m.reads) r h l);
        },
        a,
        omega (arith, t),
      ) (k.few m g));
  brings = k.brings;
}
