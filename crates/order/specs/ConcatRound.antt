-- One round of a concat, also of the one-inlet concat of a claimed leaf.
use Rattle.std.specs.Prelude.{◌≡◌, refl, ◌≢◌, ◌⊎◌, Bool, true, false, ℕ, zero, suc, ◌+◌, ◌-◌, ◌<◌, ◌≤◌, length, drop, ltb}
use Rattle.std.proofs.Common.{sym, ap, ◌∙◌, subst, inl, inr, le_of_eq, arith, drop_of_length-le, eq-eqb, ne_eqb, ltb-true, ltb-false}
use mathlib.Core.List.{List, [], ◌∷◌, map, append-nil}
use Rattle.std.proofs.Math.Option.{none, some, get_or}
use Rattle.rules.specs.Table.{get, given, is_some}
use Rattle.rules.specs.Job.{Kind, segment as aSegment, concat as aConcat, pack as aPack, Job, Node, kids_from, kids}
use Rattle.rules.specs.Plan.{Row, node_of, kept_kids, keeps}
use Rattle.rules.specs.Port.{Batch, batch_rows, is_full, capacity}
use Rattle.rules.specs.Operators.{concat, Step, end, more, final, SourceReady, go, stays, inlet, concat_at, concat_ready}
use Rattle.rules.specs.Machine.{Machine, Stage, place, node_at_place, slot_at_place, share_port, slot_places, no_source, source_at, stage_at, inlets_at, queue_at, segment_at, shows, set_source, set_changed, set_queue}
use Rattle.rules.specs.Wake.{any_full}
use Rattle.rules.specs.Drive.{touch, looked, test_concat, source_step, concat_step, take_front, is_more, said_more, finished_stages, source_out, stage_step, give_out, compute, after_test, is_over, advance_stage, is_blocked}
use Rattle.laws.specs.Table.{same, other, by_bool, by_eq, by_list, by_option, clash}
use Rattle.laws.specs.Rows.{run_rows, batch_length, All}
use Rattle.laws.specs.Full.{full_less}
use Rattle.laws.specs.JobOk.{JobOk}
use Rattle.order.specs.Base.{more_stages, at_get, get_at, at_below, place_bound, slot_below, share_above, share_leaf, sees_waiting, sees_ready}
use Rattle.order.specs.Inv.{At, split_in, Form, Claimed, Joins, SlotPipe, Came, AllCame, Brought, Solid, whole, shut}
use Rattle.order.specs.State.{Busy, Stopped, RoundOk}
use Rattle.order.specs.Take.{pieces_for}
use Rattle.order.specs.Push.{push_ok}
use Rattle.order.specs.ConcatTake.{take_ok, take_shared, shared_whole, staged_nil}
use Rattle.order.specs.StageRound.{stage_ok}
use Rattle.order.specs.Restage.{said_ok, finish_ok, finishing_ok}
use Rattle.order.specs.Resource.{concat_place}
use Rattle.order.specs.ConcatTest.{by_seen, Stops, concat_stops, test_ok}
use Rattle.order.specs.Outlets.{full_me}
use Rattle.order.specs.Each.{All-filter}

-- A concat joins children, or claimed a leaf's port

-- which of the two it is
by_form : (j : Job) (p s : ℕ) (k : Kind) (i : ℕ) (st : Stage) (xs : List ℕ) → Form j p s k (concat i) st xs → Claimed j p s st xs ⊎ Joins j p s st xs
by_form j p s aSegment i st xs f = inl f
by_form j p s aConcat i st xs f = inr f
by_form j p s aPack i st xs f = absurd f

-- what holds of all entries holds of those that pass a test
pick_all : (P : ℕ → Type 0) (b : Bool) (x : ℕ) (l : List ℕ) → P x → All P l → All P (elim b as (λ z. List ℕ) [ true ↦ x ∷ l | false ↦ l ])
pick_all P true x l h k = (h, k)
pick_all P false x l h k = k

-- children are nodes
kids_all : (top i n : ℕ) (ns : List Node) → i + length ns ≤ top → All (λ c. c < top) (kids_from i n ns)
unfolding kids_from
kids_all top i n [] h = tt
kids_all top i n (x ∷ xs) h = pick_all (λ c. c < top) (is_some n x.parent) i (kids_from (suc i) n xs) (omega arith) (kids_all top (suc i) n xs (omega arith))

-- an entry of a mapped list comes from one
all_map_at : (P : ℕ → Type 0) (f : ℕ → ℕ) (xs : List ℕ) (k y : ℕ) → All P xs → At (map f xs) k y → (c : ℕ) × P c × (f c ≡ y)
all_map_at P f [] k y h a = absurd a
all_map_at P f (x ∷ xs) zero y h a = (x, h.0, a)
all_map_at P f (x ∷ xs) (suc k) y h a = all_map_at P f xs k y h.1 a

-- the inlets of a concat that joins children are bounded ports
joins_below : (j : Job) (p s : ℕ) (st : Stage) (xs : List ℕ) (i x : ℕ) → JobOk j → p < slot_places → Joins j p s st xs → At xs i x → x < slot_places
joins_below j p s st xs i x ok h f a =
    let n = node_at_place p in
    let few : All (λ c. c < 24) (kept_kids j n s) = All-filter (λ c. c < 24) (λ c. keeps j c s) (kids j.nodes n) (kids_all 24 0 n j.nodes (omega (arith, ok.nodes_high))) in
    let r = all_map_at (λ c. c < 24) (place (slot_at_place p)) (kept_kids j n s) i x few (rw f.0 at a) in
    rw (← r.2) (place_bound (slot_at_place p) r.0 (slot_below p h) r.1)

-- that of a claimed leaf is one shared port
claimed_one : (x y i : ℕ) → At (y ∷ []) i x → (y ≡ x) × (i ≡ 0)
claimed_one x y zero a = (a, refl)
claimed_one x y (suc i) a = absurd a

-- What the source gives goes on

-- with what the source gave, and the machine that it left
abbrev computed : ℕ → Step × Machine → Machine
computed me r = let m' = said_more me (is_more r.0) r.1 in elim r.0 [ end ↦ finished_stages me 0 m' | more b ↦ source_out me b m' | final b ↦ source_out me b m' ]

compute_as : (me : ℕ) (m : Machine) (P : Machine → Type 0) (r : Step × Machine) → source_step me (source_at m me) m ≡ r → P (computed me r) → P (compute me m)
unfolding compute
compute_as me m P r e h = subst (λ t. P (computed me t)) (sym e) h

-- a batch with rows shows some
solid_rows : (b : Batch) → 0 < b.rows → batch_rows b ≢ []
solid_rows b h e = omega (arith, sym (batch_length b) ∙ ap (λ (l : List Row). length l) e)

module _ (out : ℕ → List Row) (told me : ℕ) where
  -- past the last inlet nothing is left to write
  at_end : (m : Machine) (i : ℕ) (u : Busy me [] out told m) → source_at m me ≡ concat i → i ≡ length (inlets_at m me) → (stage_at m me).continuing ≡ false → me < slot_places → u.inv.W me ≡ []
  at_end m i u es e ec h =
      let d : drop i (inlets_at m me) ≡ [] = drop_of_length-le (inlets_at m me) {i = i} (le_of_eq (sym e)) in
      u.inv.flow.mine h u.running.live ∙ rw (es, ec, d) (staged_nil (pieces_for m me) (stage_at m me).cut)

  -- so the source has ended
  end_ok : (m : Machine) (i : ℕ) → Busy me [] out told m → source_at m me ≡ concat i → i ≡ length (inlets_at m me) → (stage_at m me).continuing ≡ false
      → Busy me [] out told (finished_stages me 0 m)
  end_ok m i u es e ec = finish_ok out told me m [] u 0 (at_end m i u es e ec)
      (λ k x a. u.inv.past.before me i k x u.running.live es a (omega (arith, at_below (inlets_at m me) k x a))) ec (omega arith) (λ k. clash (cc))

  -- a batch that was taken goes out as it is, or through the stage
  out_plain : (m : Machine) (i : ℕ) (b : Batch) → source_at m me ≡ concat i → (stage_at m me).cut ≡ none → 0 < b.rows → AllCame m.job m.reads b.cells → any_full m me ≡ false
      → Busy me (batch_rows b) out told m → Busy me [] out told (source_out me b m)
  unfolding source_out
  out_plain m i b es ec h a f u = rw (ec, source_out) (push_ok out told me m (concat_place me i u.inv.pipes u.running.live es) b h a u f)

  out_cut : (m : Machine) (i at : ℕ) (b : Batch) → source_at m me ≡ concat i → (stage_at m me).cut ≡ some at → (stage_at m me).finishing ≡ none → (stage_at m me).continuing ≡ false
      → Came m.job m.reads (segment_at m me) → any_full m me ≡ false
      → Busy me (run_rows (pieces_for m me)) out told m → Busy me [] out told (source_out me b m)
  unfolding source_out given
  out_cut m i at b es ec ef en g f u = rw (ec, source_out)
      (stage_ok out told me m (run_rows (pieces_for m me)) u i es (rw ec) ef g
      (concat_place me i u.inv.pipes u.running.live es) f 0
      (rw en (append-nil (run_rows (pieces_for m me)))))

-- the front batch of the current inlet is taken
take_step : (me : ℕ) (m : Machine) (i x : ℕ) (b : Batch) (bs : List Batch) → source_at m me ≡ concat i → At (inlets_at m me) i x → queue_at m x ≡ b ∷ bs
    → source_step me (source_at m me) m ≡ (final b, set_queue x bs (touch me (i ∷ []) m))
unfolding take_front
take_step me m i x b bs es a q =
    let h = at_below (inlets_at m me) i x a in
    let n : i ≢ length (inlets_at m me) = omega (arith, h) in
    rw (es, ne_eqb i (length (inlets_at m me)) n, concat_step, at_get 0 (inlets_at m me) i x a, q, take_front, at_get 0 (inlets_at m me) i x a)

room_take : (me : ℕ) (m : Machine) (x : ℕ) (b : Batch) (bs : List Batch) (is : List ℕ) → me < slot_places → queue_at m x ≡ b ∷ bs → any_full m me ≡ false
    → any_full (set_queue x bs (touch me is m)) me ≡ false
room_take me m x b bs is h q f =
    let g : is_full capacity (queue_at m me) ≡ false = sym (full_me me m h) ∙ f in
    full_me me (set_queue x bs (touch me is m)) h ∙ by_eq me x
    (λ e. rw (e, same) (full_less b bs (rw (e, q) at g)))
    (λ n. rw other g)

module _ (out : ℕ → List Row) (told me : ℕ) (m : Machine) (u : Busy me [] out told m) (i : ℕ) (es : source_at m me ≡ concat i)
    (ef : (stage_at m me).finishing ≡ none) (en : (stage_at m me).continuing ≡ false) (f : any_full m me ≡ false)
    (x : ℕ) (at : At (inlets_at m me) i x) (b : Batch) (bs : List Batch) (q : queue_at m x ≡ b ∷ bs) where
  -- what is taken came, and has rows
  taken_came : Brought m.job m.reads (b ∷ bs)
  taken_came = rw q at (u.inv.delivered.queues x)

  taken_solid : Solid (b ∷ bs)
  taken_solid = rw q at (u.inv.delivered.solid x)

  -- from a bounded port
  joins_ok : (s : ℕ) → me < slot_places → Joins m.job me s (stage_at m me) (inlets_at m me) → Busy me [] out told (compute me m)
  joins_ok s h j =
      let M = set_queue x bs (touch me (i ∷ []) m) in
      compute_as me m (λ n. Busy me [] out told n) (final b, M) (take_step me m i x b bs es at q)
      (out_plain out told me (said_more me false M) i b es (rw same j.1) taken_solid.0 taken_came.0 (room_take me m x b bs (i ∷ []) h q f)
      (said_ok out told me M (batch_rows b) (take_ok out told me m i x b bs es j.1 at (joins_below m.job me s (stage_at m me) (inlets_at m me) i x u.inv.job h j at) q u)))

  -- the segment that a claimed leaf takes came
  claimed_came : (s l : ℕ) → me < slot_places → split_in m.active (slot_at_place me) ≡ some s → share_port l s ≡ x → (node_of m.job l).segment ≡ segment_at m me
      → Came m.job m.reads (segment_at m me)
  claimed_came s l h a e d =
      let g : slot_places ≤ x = rw (← e) (share_above l s) in
      let p = u.inv.shares.ports x g (u.inv.ports.inlets me i x u.running.live at).0 in
      let w = shared_whole me m x b bs h q p in
      let t : p.split < 16 = omega (arith, p.below, u.inv.job.splits_high) in
      let r : s < 16 = omega (arith, (u.inv.slots.active (slot_at_place me) s a).1, u.inv.slots.bound, u.inv.job.splits_high) in
      let z : p.leaf ≡ l = share_leaf p.leaf p.split l s t r (sym p.is ∙ sym e) in
      let c : AllCame m.job m.reads (whole m.job p.leaf).cells = rw w.is at taken_came.0 in
      rw (← d, ← z) c.0

  -- from a shared port
  claimed_ok : (s l : ℕ) → me < slot_places → split_in m.active (slot_at_place me) ≡ some s → inlets_at m me ≡ share_port l s ∷ [] → (node_of m.job l).segment ≡ segment_at m me
      → Busy me [] out told (compute me m)
  claimed_ok s l h a e d =
      let o = claimed_one x (share_port l s) i (rw e at at) in
      let M = set_queue x bs (touch me (0 ∷ []) m) in
      let g : slot_places ≤ x = rw (← o.0) (share_above l s) in
      let z : source_at m me ≡ concat 0 = es ∙ ap concat o.1 in
      let r = room_take me m x b bs (0 ∷ []) h q f in
      let v = take_shared out told me m x b bs h z en (rw (← o.0) e) g q u in
      compute_as me m (λ n. Busy me [] out told n) (final b, M) (take_step me m 0 x b bs z (rw o.1 at at) q)
      (by_option (stage_at m me).cut
      (λ c. out_plain out told me (said_more me false M) 0 b z (rw same c) taken_solid.0 taken_came.0 r (said_ok out told me M (batch_rows b) (rw c at v)))
      (λ k c. by_list (batch_rows b) (λ n. absurd (solid_rows b taken_solid.0 n))
      (λ row rows n. out_cut out told me (said_more me false M) 0 k b z (rw same c) (rw same ef) (rw same en) (claimed_came s l h a o.0 d) r
      (said_ok out told me M (run_rows (pieces_for m me)) (rw (c, n) at v)))))

  -- the source gives its front batch
  pub take_round : Busy me [] out told (compute me m)
  take_round =
      let h = concat_place me i u.inv.pipes u.running.live es in
      let p : SlotPipe m.job m.active me (concat i) (stage_at m me) (inlets_at m me) = rw es at (u.inv.pipes.slots me u.running.live h) in
      elim (by_form m.job me p.split (node_of m.job (node_at_place me)).kind i (stage_at m me) (inlets_at m me) p.form) [
        | inl c ↦ claimed_ok p.split c.leaf h p.is c.is c.same
        | inr j ↦ joins_ok p.split h j
      ]

-- One round

module _ (out : ℕ → List Row) (told me : ℕ) where
  -- the source ends
  end_round : (m : Machine) (i : ℕ) → Busy me [] out told m → source_at m me ≡ concat i → i ≡ length (inlets_at m me) → (stage_at m me).continuing ≡ false → Busy me [] out told (compute me m)
  end_round m i u es e en = compute_as me m (λ n. Busy me [] out told n) (end, m) (rw (es, eq-eqb i (length (inlets_at m me)) e, concat_step))
      (end_ok out told me (said_more me false m) i (said_ok out told me m [] u) es e (rw same en))

  -- the test's answer
  after_go : (r : SourceReady × Machine) → r.0 ≡ go → Busy me [] out told (compute me (set_changed me [] r.1)) → RoundOk me out told (after_test me r)
  unfolding after_test
  after_go r e h = rw (e, after_test) h

  after_stays : (r : SourceReady × Machine) (i : ℕ) → r.0 ≡ stays (inlet i) → Stopped me (is_blocked (inlet i)) out told (set_changed me [] r.1) → RoundOk me out told (after_test me r)
  unfolding after_test
  after_stays r i e h = rw (e, after_test) h

  -- the concat after a test that stopped at d
  answered_ok : (m : Machine) (i d : ℕ) (is : List ℕ) → Busy me [] out told m → source_at m me ≡ concat i → (stage_at m me).finishing ≡ none → (stage_at m me).continuing ≡ false → any_full m me ≡ false
      → Stops (shows m me) (length (inlets_at m me)) i d
      → RoundOk me out told (after_test me (concat_ready (shows m me) (length (inlets_at m me)) d, touch me is (set_source me (concat d) m)))
  answered_ok m i d is u es ef en f s =
      let n = length (inlets_at m me) in
      let R = touch me is (set_source me (concat d) m) in
      let M = set_changed me [] R in
      let v : Busy me [] out told M = test_ok out told me m i d is u es s in
      let x = get 0 (inlets_at m me) d in
      by_bool (ltb d n)
      (λ t.
      let a : At (inlets_at m me) d x = get_at 0 (inlets_at m me) d (ltb-true d n t) in
      by_seen (shows m me d)
      (λ e. let w = sees_waiting (queue_at m x) (shut m.ports x) e in
      after_stays (concat_ready (shows m me) n d, R) d (rw (t, e)) (record { inv = v.inv; running = v.running; stops = (v.calm, (x, a, w.0, w.1)) }))
      (λ e. let w = sees_ready (queue_at m x) (shut m.ports x) e in
      after_go (concat_ready (shows m me) n d, R) (rw (t, e)) (take_round out told me M v d (same no_source m.sources me (concat d)) ef en f x a w.0 w.1 w.2))
      (λ e. absurd (s.here (ltb-true d n t) e)))
      (λ t. after_go (concat_ready (shows m me) n d, R) (rw t) (end_round M d v (same no_source m.sources me (concat d)) (omega (arith, ltb-false d n t, s.high)) en))

  -- the concat's test and what follows
  pub tested_ok : (m : Machine) (i : ℕ) → Busy me [] out told m → source_at m me ≡ concat i → (stage_at m me).finishing ≡ none → (stage_at m me).continuing ≡ false → any_full m me ≡ false
      → RoundOk me out told (after_test me (test_concat me i m))
  tested_ok m i u es ef en f =
      let n = length (inlets_at m me) in
      let d = concat_at (shows m me) (n - i) i in
      let s : Stops (shows m me) n i d = concat_stops (shows m me) n (n - i) i (omega (arith, u.inv.past.within me i u.running.live es)) in
      answered_ok m i d (looked n i d) u es ef en f s

  -- the stage continues
  continuing_ok : (m : Machine) (i : ℕ) → Busy me [] out told m → any_full m me ≡ false → source_at m me ≡ concat i → (stage_at m me).continuing ≡ true
      → Busy me [] out told (give_out me (stage_step me (get_or (stage_at m me).cut 0) m))
  unfolding given
  continuing_ok m i u f es e =
      let l = u.running.live in
      let g = u.inv.pipes.stages me l e in
      let n : (stage_at m me).finishing ≡ none = by_option (stage_at m me).finishing (λ z. z) (λ k z. clash (cc (u.inv.past.emit me l (rw z)))) in
      by_option (stage_at m me).cut
      (λ c. clash (cc))
      (λ at c. stage_ok out told me m [] u i es g n (u.inv.delivered.stages me l e) (concat_place me i u.inv.pipes l es) f (get_or (stage_at m me).cut 0) (rw (c, e)))

  -- one round of a concat
  pub concat_round_ok : (m : Machine) → Busy me [] out told m → is_over (stage_at m me) ≡ false → any_full m me ≡ false → (i : ℕ) → source_at m me ≡ concat i
      → RoundOk me out told (advance_stage me (stage_at m me) m)
  concat_round_ok m u o f i es = by_bool (stage_at m me).continuing
      (λ e. rw (e, advance_stage) (continuing_ok m i u f es e))
      (λ e. by_option (stage_at m me).finishing
      (λ n. by_bool (stage_at m me).more
      (λ t. clash (cc (u.inv.past.more me u.running.live t).0))
      (λ t. rw (e, advance_stage, n, t, es) (tested_ok m i u es n e f)))
      (λ k n. rw (e, advance_stage, n) (finishing_ok out told me m [] u (suc k) k n (more_stages (stage_at m me) k o e n (u.inv.past.stage_count me k u.running.live n)))))
