-- Every round of a run after which the run goes on lowers the load.
use Rattle.std.specs.Prelude.{◌≡◌, Bool, true, false, List, [], ◌∷◌, map, ℕ, suc, ◌+◌, ◌-◌, ◌*◌, ◌<◌, ◌≤◌, length, eqb, ltb, if◌then◌else◌}
use Rattle.std.proofs.Math.Path.{refl}
use Rattle.std.proofs.Common.{sym, ◌∙◌, subst, inl, inr, arith, mul-le-mul_left, ltb-true, ltb-false}
use Rattle.std.proofs.Math.Option.{none, some, get_or}
use Rattle.std.proofs.lemmas.Bool.{eqb-false}
use Rattle.rules.specs.Table.{get, any, filter, given, is_empty, up_from}
use Rattle.rules.specs.Port.{Batch}
use Rattle.rules.specs.Operators.{Blocked, SourceReady, go, stays, Step, end, more, final, Source, segment, concat, pack, emit, least, side_by_side, concat_at, ended_count, bytes_came}
use Rattle.rules.specs.Machine.{Machine, slot_places, places, port_places, source_at, stage_at, inlets_at, queue_at, pieces_at, set_source, set_queue, set_changed, shows, fault_if}
use Rattle.rules.specs.Wake.{any_full}
use Rattle.rules.specs.Drive.{compute, source_step, concat_step, take_front, pack_step, pack_rows, take_each, front_of, touch, said_more, finished_stages, source_out, give_out, stage_step, is_end, Round, again, stop, test_source, test_pack, after_test, advance_stage, round, is_over, observe_all, looked, segment_step}
use Rattle.laws.specs.Table.{by_bool, by_list, by_option, same, clash}
use Rattle.laws.specs.Rows.{All, All-get}
use Rattle.laws.specs.JobOk.{JobOk}
use Rattle.order.specs.Inv.{Live}
use Rattle.order.specs.Among.{Among}
use Rattle.order.specs.Ranged.{Ranged}
use Rattle.order.specs.Measure.{weight, weight_share, weight_most, run_weight, run_slot, source_left, run_count, load, source_change, queue_change}
use Rattle.order.specs.Fed.{Worth, Fit, fits, few_runs, none_changed, finish_low}
use Rattle.order.specs.Pushes.{Stays, out_weight, out_less, out_slot, push_out_lem, stage_step_lem, said_more_lem, finishes_less, one_less}
use Rattle.order.specs.Takes.{Frame, take_frame, observe_frame, observe_load, take_falls, least_one, none_of_lem}
use Rattle.order.specs.Emit.{emit_some, goes}
use Rattle.order.specs.ConcatTest.{concat_at_lem}

-- the load is less, of the same job, before the same split
abbrev pub Falls : Machine → Machine → Type 0
Falls m m' = (load m' < load m) × Stays m m'

-- a live pipeline whose source is to give: it has not ended yet
abbrev Asks : Machine → ℕ → Type 0
Asks m p = (p < places) × Live m.pipes p × JobOk m.job × ((stage_at m p).finishing ≡ none)

-- an end lowers what is left to finish
goes_end : (p : ℕ) (m : Machine) → Asks m p → Falls m (goes p (end, m))
unfolding goes
goes_end p m a =
    let k : Machine = said_more p false m in
    let e : (stage_at k p).finishing ≡ none = rw same a.3 in
    let t = finishes_less p k a.0 a.1 0 (rw e (omega arith)) in
    (omega (arith, t, said_more_lem p m a.0 a.1 false), (refl, refl))

-- a batch raises the load by at most c
source_out_lem : (p c : ℕ) (b : Batch) (mo : Bool) (m : Machine) → Asks m p → (given (stage_at m p).cut ≡ false → out_weight p ≤ c) → (given (stage_at m p).cut ≡ true → run_weight p * run_count m p ≤ c)
    → (load (source_out p b (said_more p mo m)) ≤ load m + c) × Stays m (source_out p b (said_more p mo m))
unfolding source_out given
source_out_lem p c b mo m a h k =
    let n : Machine = said_more p mo m in
    let s = said_more_lem p m a.0 a.1 mo in
    by_option (stage_at m p).cut
    (λ e.
    let d : (stage_at n p).cut ≡ none = rw same e in
    let t = push_out_lem p b n a.2 in
    rw (d, source_out) (omega (arith, t.0, s, h (rw e)), t.1))
    (λ at e.
    let d : (stage_at n p).cut ≡ some at = rw same e in
    let t = stage_step_lem p n a.0 a.1 0 a.2 in
    let z : run_count m p - 0 ≡ run_count m p = omega arith in
    rw (d, source_out) (omega (arith, rw z at t.0, s, k (rw e)), t.1))

-- a batch for which more than that was paid
goes_gives : (p c : ℕ) (b : Batch) (mo : Bool) (m k : Machine) → Asks k p → (given (stage_at k p).cut ≡ false → out_weight p ≤ c) → (given (stage_at k p).cut ≡ true → run_weight p * run_count k p ≤ c)
    → load k + c < load m → Stays m k → Falls m (source_out p b (said_more p mo k))
goes_gives p c b mo m k a h i l s =
    let t = source_out_lem p c b mo k a h i in
    (omega (arith, t.0), (t.1.0 ∙ s.0, t.1.1 ∙ s.1))

-- Segment sources

-- a run is given: it was worth more than the batches that it becomes
gives_run : (p : ℕ) (m : Machine) (a b : Bool) (e : ℕ) → Asks m p → source_at m p ≡ segment a b e → given (stage_at m p).cut ≡ false
    → (x : Batch) (mo : Bool) → e < run_count m p → Falls m (source_out p x (said_more p mo (set_source p (segment a false (suc e)) m)))
gives_run p m a b e k q u x mo h =
    let n : Machine = set_source p (segment a false (suc e)) m in
    let c = source_change (run_count m) m.pipes m.sources m.stages p k.0 k.1 (segment a false (suc e)) in
    let d : source_left (run_weight p) (run_count m p) (source_at m p) ≡ source_left (run_weight p) (run_count m p) (segment a b e) = rw q in
    goes_gives p (out_weight p) x mo m n k
    (λ t. omega arith) (λ t. clash (cc)) (omega (arith, c, d, out_less p, one_less (run_weight p) (run_count m p) e h)) (refl, refl)

-- a run, or the end
segment_falls : (p : ℕ) (m : Machine) (a b : Bool) (e : ℕ) → Asks m p → source_at m p ≡ segment a b e → given (stage_at m p).cut ≡ false
    → (s : Step) → (is_end s ≡ false → e < run_count m p) → Falls m (goes p (s, set_source p (if is_end s then segment a b e else segment a false (suc e)) m))
unfolding goes
segment_falls p m a b e k q u end h =
    let c = source_change (run_count m) m.pipes m.sources m.stages p k.0 k.1 (segment a b e) in
    let d : source_left (run_weight p) (run_count m p) (source_at m p) ≡ source_left (run_weight p) (run_count m p) (segment a b e) = rw q in
    let n : Machine = set_source p (segment a b e) m in
    let t = goes_end p n k in
    (omega (arith, c, d, t.0), t.1)
segment_falls p m a b e k q u (more x) h = gives_run p m a b e k q u x true (h refl)
segment_falls p m a b e k q u (final x) h = gives_run p m a b e k q u x false (h refl)

-- Concats

-- what is worth more than the outlet of p stands in a slot's outlet
worth_slot : (p x : ℕ) → weight p < weight x → p < slot_places
worth_slot p x h = by_bool (ltb p slot_places) (λ e. ltb-true p slot_places e) (λ e. let a = weight_share p (ltb-false p slot_places e) in absurd (omega (arith, a, weight_most x)))

-- the front batch of a port is taken
front_falls : (p x i : ℕ) (m : Machine) → Asks m p → x < port_places → weight p < weight x → (given (stage_at m p).cut ≡ true → slot_places ≤ x) → run_count m p ≤ 16
    → Falls m (goes p (take_front x (queue_at m x) (touch p (i ∷ []) m)))
unfolding goes take_front
front_falls p x i m a l w u r =
    let n : Machine = touch p (i ∷ []) m in
    let s = worth_slot p x w in
    by_list (queue_at m x)
    (λ e. rw (e, take_front) (goes_end p (fault_if true n) a))
    (λ b bs e.
    let c = queue_change m.queues x bs l in
    let d : length (queue_at m x) ≡ suc (length bs) = rw e in
    rw (e, take_front)
    (goes_gives p (weight x - 1) b false m (set_queue x bs n) a
    (λ t. omega (arith, out_slot p s))
    (λ t. let g = weight_share x (u t) in let f = mul-le-mul_left (run_weight p) r in omega (arith, f, run_slot p s, g))
    (omega (arith, rw d at c, w)) (refl, refl)))

-- a batch of the inlet at hand, or the end
concat_falls : (p i : ℕ) (m : Machine) → Asks m p → Fit m p (stage_at m p) (concat i) → run_count m p ≤ 16 → Falls m (goes p (concat_step p i m))
unfolding goes
concat_falls p i m a f r = by_bool (eqb i (length (inlets_at m p)))
    (λ e. rw (e, concat_step) (goes_end p m a))
    (λ e.
    let l : i < length (inlets_at m p) = omega (arith, f.0, eqb-false i (length (inlets_at m p)) e) in
    let w = All-get (λ x. (x < port_places) × (weight p < weight x)) 0 (inlets_at m p) i f.1 l in
    rw (e, concat_step) (front_falls p (get 0 (inlets_at m p) i) i m a w.0 w.1 (λ c. All-get (λ x. slot_places ≤ x) 0 (inlets_at m p) i (f.2 c) l) r))

-- Packs

-- a member of a list
of_among : (P : ℕ → Type 0) (xs : List ℕ) (y : ℕ) → All P xs → Among y xs → P y
of_among P [] y h a = absurd a
of_among P (x ∷ xs) y h (inl e) = rw e h.0
of_among P (x ∷ xs) y h (inr a) = of_among P xs y h.1 a

-- the same after what a source takes
asks_frame : (p : ℕ) (m m' : Machine) → Frame m m' → Asks m p → Asks m' p
asks_frame p m m' f a = (a.0, rw f.pipes a.1, rw f.job a.2, rw f.stages a.3)

-- the inlet whose front batch is used up pays
rows_fall : (p x : ℕ) (xs : List ℕ) (m : Machine) → Asks m p → given (stage_at m p).cut ≡ false → Worth p (x ∷ xs) → any (λ y. is_empty (queue_at m y)) (x ∷ xs) ≡ false
    → Falls m (goes p (pack_rows p (x ∷ xs) m))
unfolding goes is_empty
rows_fall p x xs m a u w h =
    let n = least (map (front_of m) (x ∷ xs)) in
    let t = least_one (front_of m) x xs in
    let g = of_among (λ y. (y < port_places) × (weight p < weight y)) (x ∷ xs) t.0 w t.1 in
    let d = none_of_lem (λ y. is_empty (queue_at m y)) (x ∷ xs) t.0 h t.1 in
    let k0 : Machine = touch p (up_from 0 (length (x ∷ xs))) m in
    let k : Machine = take_each p n 0 (x ∷ xs) k0 in
    let f = take_frame p n 0 (x ∷ xs) k0 in
    by_list (queue_at m t.0) (λ e. clash (cc)) (λ b bs e.
    let r : b.rows ≡ n = rw e at t.2 in
    let l = take_falls p n t.0 b bs g.0 r 0 (x ∷ xs) k0 t.1 e in
    let s = out_slot p (worth_slot p t.0 g.1) in
    goes_gives p (out_weight p) (side_by_side n (map (front_of m) (x ∷ xs))) false m k (asks_frame p k0 k f a)
    (λ z. omega arith) (λ z. let v : given (stage_at k p).cut ≡ false = rw f.stages u in clash (cc (v, z))) (omega (arith, l, s, g.1)) (f.job, f.next))

-- rows of all inlets, or the end
pack_falls : (p : ℕ) (xs : List ℕ) (m : Machine) → Asks m p → given (stage_at m p).cut ≡ false → Worth p xs → (xs ≡ [] → get [] m.seen p ≡ []) → Falls m (goes p (pack_step p xs m))
unfolding goes filter
pack_falls p [] m a u w h = let e : eqb (ended_count (get [] m.seen p)) 0 ≡ true = rw (h refl) in rw (e, pack_step) (goes_end p m a)
pack_falls p (x ∷ xs) m a u w h = by_bool (eqb (ended_count (get [] m.seen p)) (length (x ∷ xs)))
    (λ e. rw (e, pack_step) (goes_end p m a))
    (λ e. by_bool (any (λ y. is_empty (queue_at m y)) (x ∷ xs))
    (λ d. rw (e, pack_step, d) (goes_end p (fault_if true m) a))
    (λ d. rw (e, pack_step, d) (rows_fall p x xs m a u w d)))

-- The source gives

-- whatever the source is
step_falls : (p : ℕ) (m : Machine) → Asks m p → (s : Source) → source_at m p ≡ s → Fit m p (stage_at m p) s → run_count m p ≤ 16 → Falls m (goes p (source_step p s m))
step_falls p m a (segment x y e) q f r = by_bool (bytes_came y e)
    (λ d. rw (d, segment_step) (segment_falls p m x y e a q f (emit (pieces_at m p) e) (emit_some (pieces_at m p) e)))
    (λ d. rw (d, segment_step) (goes_end p (fault_if true m) a))
step_falls p m a (concat i) q f r = concat_falls p i m a f r
step_falls p m a pack q f r = pack_falls p (inlets_at m p) m a f.0 f.1 f.2

-- the source gives, and what it gives goes on
compute_falls : (p : ℕ) (m : Machine) → Asks m p → (s : Source) → source_at m p ≡ s → Fit m p (stage_at m p) s → run_count m p ≤ 16 → Falls m (compute p m)
unfolding compute goes
compute_falls p m a s q f r = subst (λ (z : Source). Falls m (goes p (source_step p z m))) (sym q) (step_falls p m a s q f r)

-- A round

-- a pack without inlets has seen none
none_seen : (p : ℕ) (m : Machine) → (inlets_at m p ≡ [] → get [] m.changed p ≡ []) → inlets_at m p ≡ [] → get [] m.seen p ≡ []
    → get [] (observe_all p (get [] m.changed p) m).seen p ≡ []
unfolding observe_all
none_seen p m n o s = rw (n o) s

-- a source that is ready or stays
pub by_ready {ℓ} : {P : Type ℓ} (s : SourceReady) → (s ≡ go → P) → ((b : Blocked) → s ≡ stays b → P) → P
by_ready go g f = g refl
by_ready (stays b) g f = f b refl

-- a source that is tested, and gives
test_falls : (p : ℕ) (m : Machine) → Asks m p → (s : Source) → source_at m p ≡ s → Fit m p (stage_at m p) s → (inlets_at m p ≡ [] → get [] m.changed p ≡ []) → run_count m p ≤ 16
    → (test_source p s m).0 ≡ go → Falls m (compute p (set_changed p [] (test_source p s m).1))
test_falls p m a (segment true b e) q f n r g =
    compute_falls p (set_changed p [] m) a (segment true b e) q f r
test_falls p m a (segment false b e) q f n r g = clash (cc)
test_falls p m a (concat i) q f n r g =
    let j = concat_at (shows m p) (length (inlets_at m p) - i) i in
    let k : Machine = set_changed p [] (touch p (looked (length (inlets_at m p)) i j) (set_source p (concat j) m)) in
    let c = source_change (run_count m) m.pipes m.sources m.stages p a.0 a.1 (concat j) in
    let d : source_left (run_weight p) (run_count m p) (source_at m p) ≡ 0 = rw q in
    let l : j ≤ length (inlets_at m p) = omega (arith, concat_at_lem (shows m p) (length (inlets_at m p) - i) i, f.0) in
    let t = compute_falls p k a (concat j) (rw same) (l, f.1, f.2) r in
    (omega (arith, c, d, t.0), t.1)
test_falls p m a pack q f n r g =
    let k0 : Machine = observe_all p (get [] m.changed p) m in
    let k : Machine = set_changed p [] (test_pack p m).1 in
    let h = observe_frame p (get [] m.changed p) m in
    let e = observe_load p (get [] m.changed p) m in
    let x = asks_frame p m k0 h a in
    let z : run_count k0 p ≤ 16 = rw (h.job, h.active) r in
    let t = compute_falls p k x pack (rw h.sources q)
    (rw h.stages f.0, rw h.inlets f.1, rw h.inlets (λ o. none_seen p m n o (f.2 o))) z in
    (omega (arith, e, t.0), (t.1.0 ∙ h.job, t.1.1 ∙ h.next))

-- an answer after which the run goes on
abbrev pub Less : Machine → Round → Type 0
Less m (again m') = Falls m m'
Less m (stop w m') = Unit {0}

module _ (m : Machine) (r : Ranged m) (p : ℕ) (is : Live m.pipes p) where
  asks : (stage_at m p).finishing ≡ none → Asks m p
  asks f = ((r.pipes p is).bound, is, r.job, f)

  -- a source that is tested
  after_less : (stage_at m p).finishing ≡ none → Less m (after_test p (test_source p (source_at m p) m))
  unfolding after_test
  after_less f = by_ready (test_source p (source_at m p) m).0
      (λ e. rw (e, after_test) (test_falls p m (asks f) (source_at m p) refl (fits m r p is) (none_changed m r p is) (few_runs m r p is) e))
      (λ b e. rw (e, after_test) tt)

  -- the stage's next run
  cut_less : (stage_at m p).continuing ≡ true → Falls m (give_out p (stage_step p (get_or (stage_at m p).cut 0) m))
  cut_less c =
      let t = stage_step_lem p m (r.pipes p is).bound is (get_or (stage_at m p).cut 0) r.job in
      (omega (arith, rw c at t.0), t.1)

  -- the next finishing stage
  finish_less : (n : ℕ) → (stage_at m p).finishing ≡ some n → Falls m (finished_stages p (suc n) m)
  finish_less n f =
      let l = finish_low m p r.job (stage_at m p) (r.pipes p is).stage n f in
      (finishes_less p m (r.pipes p is).bound is (suc n) (rw f (omega arith)), (refl, refl))

  -- the stage or the source
  advance_less : Less m (advance_stage p (stage_at m p) m)
  advance_less = by_bool (stage_at m p).continuing
      (λ c. rw (c, advance_stage) (cut_less c))
      (λ c. by_option (stage_at m p).finishing
      (λ f. by_bool (stage_at m p).more
      (λ e. rw (c, advance_stage, f, e) (compute_falls p m (asks f) (source_at m p) refl (fits m r p is) (few_runs m r p is)))
      (λ e. rw (c, advance_stage, f, e) (after_less f)))
      (λ n f. rw (c, advance_stage, f) (finish_less n f)))

  -- a round
  round_less : Less m (round p m)
  unfolding round
  round_less = by_bool (is_over (stage_at m p))
      (λ e. rw (e, round) tt)
      (λ e. by_bool (any_full m p) (λ d. rw (e, round, d) tt) (λ d. rw (e, round, d) advance_less))

  -- every round that goes on lowers the load
  pub round_falls : (m' : Machine) → round p m ≡ again m' → (load m' < load m) × (m'.job ≡ m.job) × (m'.next ≡ m.next)
  round_falls m' e = let t : Less m (again m') = rw e at round_less in (t.0, t.1.0, t.1.1)
