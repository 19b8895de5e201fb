-- One round of a pipeline keeps `Fits`.
use Rattle.std.specs.Prelude.{◌≡◌, refl, Bool, true, false, List, [], ◌∷◌, ℕ, suc, ◌<◌, ◌≤◌, length, ltb, if◌then◌else◌}
use Rattle.std.proofs.Common.{inl, inr, arith, ltb-true, ltb-false}
use Rattle.std.proofs.Math.Option.{Option, some}
use Rattle.std.proofs.lemmas.Bool.{lt-leb}
use Rattle.rules.specs.Table.{get, any, given}
use Rattle.rules.specs.Job.{Kind, Job, is_segment}
use Rattle.rules.specs.Plan.{node_of}
use Rattle.rules.specs.InletSet.{InletSet}
use Rattle.rules.specs.Port.{Batch, Seen}
use Rattle.rules.specs.Operators.{blocked, SourceReady, go, stays, Step, end, more, final, Source, segment, concat, pack, emit}
use Rattle.rules.specs.Machine.{Machine, node_at_place, slot_places, is_share_port, source_at, stage_at, inlets_at, queue_at, pieces_at, outlets, set_changed}
use Rattle.rules.specs.Ports.{push_out}
use Rattle.rules.specs.Wake.{full, any_full}
use Rattle.rules.specs.Drive.{is_end, is_more, source_step, test_source, stage_step, give_out, source_out, said_more, finished_stages, compute, Why, is_blocked, at_outlet, done, Round, again, stop, after_test, is_over, advance_stage, round}
use Rattle.laws.specs.Table.{by_bool, by_option, clash, or_left}
use Rattle.laws.specs.Full.{full_not}
use Rattle.order.specs.Inv.{Live, bit, source_of}
use Rattle.order.specs.Outlets.{outlets_slot, never_full}
use Rattle.order.specs.RangeParts.{Fed, FedShared, SourceFits, StateFits, Fits}
use Rattle.order.specs.RangeMoves.{set_stage_lem, set_changed_lem}
use Rattle.order.specs.RangeWake.{none_set}
use Rattle.order.specs.RangePorts.{Calm, calm_then, OutFits, out_fits, out_calm, closes_fits, closes_calm, outlets_bound}
use Rattle.order.specs.RangeTest.{Tested, test_fits}
use Rattle.order.specs.RangeStep.{Gives, emit_gives, runs_out, Stepped, step_fits}
use Rattle.order.specs.Emit.{emit_some}
use Rattle.order.specs.Base.{more_stages}
use Rattle.order.specs.Tally.{bit_most}

-- Stages

-- only a claimed leaf has a cutting stage
fed_not : (j : Job) (p : ℕ) (xs : List ℕ) → Fed j p xs → FedShared j p xs → ⊥
fed_not j p xs f s =
    let e = s.1 in
    let g : Fed j p (s.0 ∷ []) = rw e at f in
    omega (arith, g.0, s.2, s.4)

cut_kind : (j : Job) (A : List (Option ℕ)) (p : ℕ) (k : Kind) (s : Source) (xs : List ℕ) (w : InletSet) (es : List Seen) → SourceFits j A p k s xs w es
    → FedShared j p xs → is_segment k ≡ true
cut_kind j A p k (segment a b e) xs w es f h = f.0
cut_kind j A p k (concat i) xs w es (b, l, inl f) h = absurd (fed_not j p xs f.1 h)
cut_kind j A p k (concat i) xs w es (b, l, inr f) h = f.0
cut_kind j A p k pack xs w es f h = absurd (fed_not j p xs f.2 h)

some_is : (a n k : ℕ) → a ≤ k → ◌≡◌ {A = Option ℕ} (some a) (some n) → n ≤ k
some_is a n k h e = let d : a ≡ n = cc in omega arith

-- a stage gives its next run
pub stage_step_lem : (m : Machine) (p at : ℕ) → Fits m → Live m.pipes p → FedShared m.job p (inlets_at m p) → at ≤ length (pieces_at m p)
    → Stepped p m (stage_step p at m)
unfolding given
stage_step_lem m p at f l h b =
    let s = emit (pieces_at m p) at in
    let x = stage_at m p in
    let r = f.pipes p l in
    let c = if is_end s then at else suc at in
    let k : c ≤ length (pieces_at m p) = by_bool (is_end s) (λ e. rw e b) (λ e. rw e (emit_some (pieces_at m p) at e)) in
    record {
      fits = set_stage_lem m p (record { cut = some c; continuing = is_more s; finishing = x.finishing; more = x.more }) f l (record {
        cut = λ n e. (some_is c n (length (pieces_at m p)) k e, h);
        continuing = λ e. refl;
        finishing = λ n e. omega (arith, r.stage.finishing n e, bit_most (given x.cut));
      });
      calm = (refl, refl, refl, refl);
      gives = emit_gives (OutFits m.job p) (pieces_at m p) at
          (runs_out m.job m.active p f.job r.place (cut_kind m.job m.active p (node_of m.job (node_at_place p)).kind (source_of m.sources p) (inlets_at m p) (get [] m.waits p) (get [] m.seen p) r.source h));
      less = omega arith;
    }

pub more_fits : (m : Machine) (p : ℕ) (b : Bool) → Fits m → Live m.pipes p → Fits (said_more p b m)
more_fits m p b f l =
    let x = stage_at m p in
    let r = (f.pipes p l).stage in
    set_stage_lem m p (record { cut = x.cut; continuing = x.continuing; finishing = x.finishing; more = b }) f l (record { cut = r.cut; continuing = r.continuing; finishing = r.finishing })

finished_fits : (m : Machine) (p n : ℕ) → Fits m → Live m.pipes p → n ≤ bit (given (stage_at m p).cut) → Fits (finished_stages p n m)
finished_fits m p n f l h =
    let x = stage_at m p in
    let r = (f.pipes p l).stage in
    set_stage_lem m p (record { cut = x.cut; continuing = x.continuing; finishing = some n; more = x.more }) f l
    (record { cut = r.cut; continuing = r.continuing; finishing = λ k e. some_is n k (bit (given x.cut)) h e })

-- Writing

-- a pipeline's own port has room for a batch
abbrev pub Room : Machine → ℕ → Type 0
Room m p = p < slot_places → length (queue_at m p) < 8

abbrev pub Ran : Machine → Machine → Type 0
Ran m m' = Fits m' × Calm m m'

-- a batch goes out
push_ran : (m n : Machine) (p : ℕ) (b : Batch) → Fits n → Calm m n → Live m.pipes p → OutFits m.job p b → Room n p → Ran m (push_out p b n)
push_ran m n p b f c l o r =
    let j = c.0 in
    let k = c.1 in
    (out_fits p b n f (rw k l) (rw j o) r, calm_then m n (push_out p b n) c (out_calm p b n))

pub room_less : (m n : Machine) (p : ℕ) → length (queue_at n p) ≤ length (queue_at m p) → Room m p → Room n p
room_less m n p h r s = omega (arith, r s)

give_ran : (m n : Machine) (p : ℕ) (s : Step) → Stepped p m (s, n) → Live m.pipes p → Room m p → Ran m (give_out p (s, n))
unfolding give_out
give_ran m n p end t l r = (t.fits, t.calm)
give_ran m n p (more b) t l r = push_ran m n p b t.fits t.calm l t.gives (room_less m n p t.less r)
give_ran m n p (final b) t l r = push_ran m n p b t.fits t.calm l t.gives (room_less m n p t.less r)

source_ran : (m : Machine) (p : ℕ) (b : Batch) → Fits m → Live m.pipes p → OutFits m.job p b → Room m p → Ran m (source_out p b m)
unfolding source_out
source_ran m p b f l o r = by_option (stage_at m p).cut
    (λ e. rw (e, source_out) (push_ran m m p b f (refl, refl, refl, refl) l o r))
    (λ at e. rw (e, source_out)
    (let s = stage_step p 0 m in give_ran m s.1 p s.0 (stage_step_lem m p 0 f l ((f.pipes p l).stage.cut at e).1 (omega arith)) l r))

-- what the source gave goes on
on_ran : (m n : Machine) (p : ℕ) (b : Batch) → Fits n → Calm m n → Live m.pipes p → OutFits m.job p b → Room n p → Ran m (source_out p b n)
on_ran m n p b f c l o r =
    let j = c.0 in
    let k = c.1 in
    let t = source_ran n p b f (rw k l) (rw j o) r in
    (t.0, calm_then m n (source_out p b n) c t.1)

after_step : (m n : Machine) (p : ℕ) (s : Step) → Fits n → Calm m n → Live m.pipes p → Gives (OutFits m.job p) s → Room n p
    → Ran m (elim s [ end ↦ finished_stages p 0 n | more b ↦ source_out p b n | final b ↦ source_out p b n ])
after_step m n p end f c l o r = let k = c.1 in (finished_fits n p 0 f (rw k l) (omega arith), c)
after_step m n p (more b) f c l o r = on_ran m n p b f c l o r
after_step m n p (final b) f c l o r = on_ran m n p b f c l o r

compute_ran : (m : Machine) (p : ℕ) → Fits m → Live m.pipes p → Room m p → Ran m (compute p m)
unfolding compute
compute_ran m p f l r =
    let t = step_fits m p (source_at m p) f l refl in
    let n = source_step p (source_at m p) m in
    let k = t.calm.1 in
    after_step m (said_more p (is_more n.0) n.1) p n.0 (more_fits n.1 p (is_more n.0) t.fits (rw k l)) t.calm l t.gives (room_less m n.1 p t.less r)

-- Rounds

-- what a run stops at is in range
abbrev pub WhyFits : Machine → ℕ → Why → Type 0
WhyFits m p (is_blocked b) = StateFits p (length (inlets_at m p)) (blocked b)
WhyFits m p at_outlet = p < slot_places
WhyFits m p done = Unit {0}

abbrev pub RoundFits : Machine → ℕ → Round → Type 0
RoundFits m p (again m') = Ran m m'
RoundFits m p (stop w m') = (length m.news < 24 → Fits m') × (m'.pipes ≡ m.pipes) × (m'.dirty ≡ m.dirty) × WhyFits m' p w

after_test_lem : (m n : Machine) (p : ℕ) (s : SourceReady) → Tested p m (s, n) → Live m.pipes p → Room m p → RoundFits m p (after_test p (s, n))
unfolding after_test
after_test_lem m n p go t l r =
    let k = t.pipes in
    let q = t.queues in
    let n' = set_changed p [] n in
    let c = compute_ran n' p (set_changed_lem n p [] (t.fits (inl refl)) (rw k l) (none_set (length (inlets_at n p)))) (rw k l) (λ h. rw q (r h)) in
    (c.0, calm_then m n' (compute p n') (t.job, t.pipes, t.news refl, t.dirty) c.1)
after_test_lem m n p (stays b) t l r =
    let k = t.pipes in
    (λ h. set_changed_lem n p [] (t.fits (inr h)) (rw k l) (none_set (length (inlets_at n p))), t.pipes, t.dirty, t.stays b refl)

-- not full: there is room
pub room_of : (m : Machine) (p : ℕ) → any_full m p ≡ false → Room m p
unfolding any
room_of m p e h =
    let q = queue_at m p in
    let d : full m p ≡ false = or_left (full m p) false (rw (outlets_slot m p h) at e) in
    let s : is_share_port p ≡ false = lt-leb slot_places p h in
    (full_not q (rw s at d)).0

at_round : (m : Machine) (p : ℕ) → any_full m p ≡ true → p < slot_places
at_round m p e = by_bool (ltb p slot_places) (ltb-true p slot_places) (λ d. clash (cc (never_full m p (ltb-false p slot_places d))))

advance_fits : (m : Machine) (p : ℕ) → Fits m → Live m.pipes p → is_over (stage_at m p) ≡ false → Room m p → RoundFits m p (advance_stage p (stage_at m p) m)
unfolding given
advance_fits m p f l o r =
    let x = stage_at m p in
    let g = (f.pipes p l).stage in
    let t = test_source p (source_at m p) m in
    by_bool x.continuing
    (λ c. by_option x.cut
    (λ e. clash (cc (g.continuing c)))
    (λ at e. let s = stage_step p at m in rw (c, advance_stage, e) (give_ran m s.1 p s.0 (stage_step_lem m p at f l (g.cut at e).1 (g.cut at e).0) l r)))
    (λ c. by_option x.finishing
    (λ e. by_bool x.more
    (λ d. rw (c, advance_stage, e, d) (compute_ran m p f l r))
    (λ d. rw (c, advance_stage, e, d) (after_test_lem m t.1 p t.0 (test_fits m p (source_at m p) f l refl) l r)))
    (λ k e. rw (c, advance_stage, e) (finished_fits m p (suc k) f l (more_stages x k o c e (g.finishing k e)), (refl, refl, refl, refl))))

-- any round of a live pipeline
pub round_fits : (m : Machine) (p : ℕ) → Fits m → Live m.pipes p → RoundFits m p (round p m)
unfolding round
round_fits m p f l = by_bool (is_over (stage_at m p))
    (λ e. let c = closes_calm (outlets m p) m in rw (e, round) (λ _. closes_fits (outlets m p) m f (outlets_bound m p f), c.1, c.3, tt))
    (λ e. by_bool (any_full m p)
    (λ d. rw (e, round, d) (λ _. f, refl, refl, at_round m p d))
    (λ d. rw (e, round, d) (advance_fits m p f l e (room_of m p d))))
