-- A round of a pack.
use Rattle.std.specs.Prelude.{◌≡◌, refl, ◌≢◌, Bool, ℕ, suc, ◌<◌, ◌≤◌, length, eqb}
use Rattle.std.proofs.Math.Path.{sym}
use Rattle.std.proofs.Common.{ap, subst, ◌∙◌, eqb-true, ne_eqb}
use Rattle.std.proofs.Math.Bool.{true, false}
use mathlib.Core.List.{List, [], ◌∷◌, map}
use native.Mathlib.Omega.{arith}
use Rattle.std.proofs.lemmas.Bool.{eqb-false}
use Rattle.rules.specs.Table.{get, has, any, is_empty, is_some, given, up_from}
use Rattle.rules.specs.Plan.{Row}
use Rattle.rules.specs.InletSet.{InletSet}
use Rattle.rules.specs.Port.{Batch, no_batch, Seen, waiting, ready, ended, sees}
use Rattle.rules.specs.Operators.{Source, pack, Step, end, more, final, ended_count, pack_fault, pack_ready, least, side_by_side}
use Rattle.rules.specs.Machine.{Machine, source_at, stage_at, inlets_at, queue_at, set_changed}
use Rattle.rules.specs.Wake.{any_full}
use Rattle.rules.specs.Drive.{touch, observe_all, test_pack, take_each, front_of, pack_rows, pack_step, source_step, is_more, said_more, finished_stages, source_out, compute, after_test, is_over, advance_stage}
use Rattle.laws.specs.Table.{by_bool, by_list, by_option, clash}
use Rattle.order.specs.Inv.{Solid, shut, inlets_of, queue_of, At, Ended, is_waits}
use Rattle.order.specs.State.{Busy, RoundOk}
use Rattle.order.specs.Base.{at_below, sees_ended}
use Rattle.order.specs.Observe.{Noted}
use Rattle.order.specs.PackCount.{all_ended, ended_all, no_fault}
use Rattle.order.specs.PackTest.{unfaulted, Tested, noted_of, tested, tested_apart, tested_stops}
use Rattle.order.specs.PackFlow.{Fronts}
use Rattle.order.specs.PackTake.{least_below, least_some, Took, take_ok}
use Rattle.order.specs.PackStage.{NoStage, pack_stage, place_me, said_ok, finish_ok}
use Rattle.order.specs.Push.{push_ok}
use Rattle.order.specs.Outlets.{full_me}

-- What the source gives

-- what becomes of it
abbrev after_step : ℕ → Step × Machine → Machine
after_step p r =
    let m' = said_more p (is_more r.0) r.1 in
    elim r.0 [ end ↦ finished_stages p 0 m' | more b ↦ source_out p b m' | final b ↦ source_out p b m' ]

-- the source is a pack
compute_pack : (me : ℕ) (m : Machine) → source_at m me ≡ pack → compute me m ≡ after_step me (pack_step me (inlets_at m me) m)
unfolding compute
compute_pack me m e = ap (λ (s : Source). after_step me (source_step me s m)) e

-- every inlet has ended
compute_end : (me : ℕ) (m : Machine) → source_at m me ≡ pack → eqb (ended_count (get [] m.seen me)) (length (inlets_at m me)) ≡ true
    → compute me m ≡ finished_stages me 0 (said_more me false m)
compute_end me m e h =
    let s : pack_step me (inlets_at m me) m ≡ (end, m) = rw (h, pack_step) in
    compute_pack me m e ∙ ap (after_step me) s

-- every inlet has a batch
compute_rows : (me : ℕ) (m : Machine) → source_at m me ≡ pack → eqb (ended_count (get [] m.seen me)) (length (inlets_at m me)) ≡ false
    → any (λ x. is_empty (queue_at m x)) (inlets_at m me) ≡ false
    → compute me m
    ≡ source_out me (side_by_side (least (map (front_of m) (inlets_at m me))) (map (front_of m) (inlets_at m me)))
    (said_more me false (take_each me (least (map (front_of m) (inlets_at m me))) 0 (inlets_at m me) (touch me (up_from 0 (length (inlets_at m me))) m)))
compute_rows me m e h a =
    let s : pack_step me (inlets_at m me) m ≡ pack_rows me (inlets_at m me) m = rw (h, pack_step, a) in
    compute_pack me m e ∙ ap (after_step me) s

-- none of the queues is empty
any_empty : (f : ℕ → List Batch) (xs : List ℕ) → ((i x : ℕ) → At xs i x → f x ≢ []) → any (λ x. is_empty (f x)) xs ≡ false
unfolding any is_empty
any_empty f [] h = refl
any_empty f (x ∷ xs) h = by_list (f x) (λ e. absurd (h 0 x refl e)) (λ b bs e. rw e (any_empty f xs (λ i y a. h (suc i) y a)))

-- a first batch has rows
first_solid : (q : List Batch) → q ≢ [] → Solid q → 0 < (get no_batch q 0).rows
first_solid [] n h = absurd (n refl)
first_solid (b ∷ bs) n h = h.0

-- neither waiting nor ended
sees_some : (q : List Batch) (c : Bool) → sees q c ≢ ended → is_waits (sees q c) ≡ false → q ≢ []
unfolding sees
sees_some [] true n w = absurd (n refl)
sees_some [] false n w = clash (cc)
sees_some (b ∷ bs) c n w = λ e. clash (cc)

-- neither waiting nor ready: it has ended
seen_ended : (s : Seen) → is_waits s ≡ false → s ≢ ready → s ≡ ended
seen_ended waiting w n = clash (cc)
seen_ended ready w n = absurd (n refl)
seen_ended ended w n = refl

module _ (out : ℕ → List Row) (told me : ℕ) where
  -- the batch that was taken goes out
  rows_ok : (b : Batch) (m : Machine) → Took me out told b m → 0 < b.rows → Busy me [] out told (source_out me b (said_more me false m))
  unfolding source_out
  rows_ok b m k pos =
      let m' : Machine = said_more me false m in
      let v : Busy me _ out told m' = said_ok out told me _ m k.busy k.source in
      rw ((pack_stage out told me _ m' v k.source).cut, source_out)
      (push_ok out told me m' (place_me out told me _ m' v k.source).low b pos k.came v (full_me me m' (place_me out told me _ m' v k.source).low ∙ k.room))

  module _ (m : Machine) (t : Tested me out told m) (none-waits : get [] m.waits me ≡ []) where
    abbrev xs : List ℕ
    xs = inlets_of m.inlets me

    abbrev es : List Seen
    es = get [] m.seen me

    -- what it has noted
    notes : Noted (length xs) (get [] m.waits me) es
    notes = noted_of me t.busy.inv.packs t.busy.running.live t.source

    -- no inlet waits
    not_waiting : (i : ℕ) → i < length xs → is_waits (get waiting es i) ≡ false
    unfolding has
    not_waiting i b = sym (notes.waits i b) ∙ rw none-waits

    -- as many have ended as there are
    end_ok : ended_count es ≡ length xs → (i x : ℕ) → At xs i x → Ended m.ports m.queues x
    end_ok e i x a =
        let b : i < length es = omega (arith, notes.size, at_below xs i x a) in
        let s : (queue_of m.queues x ≡ []) × (shut m.ports x ≡ true) = sees_ended (queue_of m.queues x) (shut m.ports x) (sym (t.right i x a) ∙ all_ended es (e ∙ sym notes.size) i b) in
        (s.1, s.0)

    -- one that has ended: all have
    one_ended : (i : ℕ) → i < length xs → get waiting es i ≡ ended → ended_count es ≡ length xs
    one_ended i b e =
        ended_all es (λ h c. let c' : h < length xs = omega (arith, notes.size) in
        seen_ended (get waiting es h) (not_waiting h c') (tested_apart out told me m t i h b c' e)) ∙ notes.size

    -- not all have ended: each has a batch
    all_ready : ended_count es ≢ length xs → (i x : ℕ) → At xs i x → queue_of m.queues x ≢ []
    all_ready n i x a =
        let b : i < length xs = at_below xs i x a in
        sees_some (queue_of m.queues x) (shut m.ports x) (λ e. n (one_ended i b (t.right i x a ∙ e))) (sym (ap is_waits (t.right i x a)) ∙ not_waiting i b)

    -- not all have ended: there are inlets
    some_inlets : ended_count es ≢ length xs → xs ≢ []
    some_inlets n e = n (ended_all es (λ h c. let z : length xs ≡ 0 = rw e in absurd (omega (arith, z, notes.size))) ∙ notes.size)

    -- each has a batch: the least front is taken and goes out
    take_rows : ended_count es ≢ length xs → Busy me [] out told (compute me m)
    take_rows n =
        let q : (i x : ℕ) → At xs i x → queue_of m.queues x ≢ [] = all_ready n in
        let fr : Fronts m.queues (least (map (front_of m) xs)) xs = λ i x a. (q i x a, least_below (front_of m) xs i x a) in
        let pos : 0 < least (map (front_of m) xs) = least_some (front_of m) xs (some_inlets n) (λ i x a. first_solid (queue_of m.queues x) (q i x a) (t.busy.inv.delivered.solid x)) in
        rw (compute_rows me m t.source (ne_eqb (ended_count es) (length xs) n) (any_empty (queue_at m) xs q))
        (rows_ok _ _ (take_ok out told me m t (least (map (front_of m) xs)) (some_inlets n) fr) pos)

    -- no inlet waits: it gives a batch, or has ended
    step_ok : Busy me [] out told (compute me m)
    step_ok =
        by_bool (eqb (ended_count es) (length xs))
        (λ e. rw (compute_end me m t.source e)
        (finish_ok out told me (said_more me false m) (said_ok out told me [] m t.busy t.source) t.source (end_ok (eqb-true (ended_count es) (length xs) e))))
        (λ e. take_rows (eqb-false (ended_count es) (length xs) e))

  -- what comes of the test
  after_ok : (m : Machine) → Tested me out told (set_changed me [] m) → (w : InletSet) → get [] m.waits me ≡ w → RoundOk me out told (after_test me (pack_ready w, m))
  unfolding pack_ready after_test
  after_ok m t [] e = step_ok (set_changed me [] m) t e
  after_ok m t (i ∷ w) e = tested_stops out told me (set_changed me [] m) i w t e

  -- the source is tested, and what comes of it
  pub pack_test_ok : (m : Machine) → Busy me [] out told m → any_full m me ≡ false → source_at m me ≡ pack → RoundOk me out told (after_test me (test_pack me m))
  pack_test_ok m b f e =
      let m' : Machine = observe_all me (get [] m.changed me) m in
      let t : Tested me out told (set_changed me [] m') = tested out told me m b e f in
      let n : pack_fault (get [] m'.seen me) (get [] m'.waits me) ≡ false = no_fault (length (inlets_of m'.inlets me)) (get [] m'.waits me) (get [] m'.seen me)
      (noted_of me t.busy.inv.packs t.busy.running.live t.source) (tested_apart out told me (set_changed me [] m') t) in
      subst (λ (z : Machine). RoundOk me out told (after_test me (pack_ready (get [] m'.waits me), z)))
      (sym (unfaulted (pack_fault (get [] m'.seen me) (get [] m'.waits me)) m' t.busy.inv.sound n))
      (after_ok m' t (get [] m'.waits me) refl)

  -- a round of a pack keeps the invariant
  pub pack_round_ok : (m : Machine) → Busy me [] out told m → is_over (stage_at m me) ≡ false → any_full m me ≡ false → source_at m me ≡ pack
      → RoundOk me out told (advance_stage me (stage_at m me) m)
  unfolding is_some given
  pack_round_ok m b o f e =
      let s : NoStage (stage_at m me) = pack_stage out told me [] m b e in
      by_option (stage_at m me).finishing
      (λ h. rw (s.continuing, advance_stage, h, s.more, e) (pack_test_ok m b f e))
      (λ n h. let c : n ≤ 0 = rw s.cut at (b.inv.past.stage_count me n b.running.live h) in
      let z : n ≡ 0 = omega arith in
      let y : is_over (stage_at m me) ≡ true = rw (s.cut, h, s.continuing, z) in
      clash (cc))
