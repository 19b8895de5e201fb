-- A pack is tested: it observes the inlets that have changed, then every inlet is seen as it is; its fields do not end at different rows.
use Rattle.std.specs.Prelude.{◌≡◌, refl, ◌⊎◌, Bool, true, false, ◌||◌, ℕ, ◌<◌, length}
use Rattle.std.proofs.Common.{sym, ap, subst, ◌∙◌, inr, arith, length-append}
use Rattle.std.proofs.Math.Logic.{inl}
use mathlib.Core.List.{List, [], ◌∷◌, ◌++◌}
use Rattle.rules.specs.Table.{get, put, has}
use Rattle.rules.specs.Plan.{Row}
use Rattle.rules.specs.InletSet.{InletSet}
use Rattle.rules.specs.Port.{Batch, batch_rows, Seen, waiting, ready, ended}
use Rattle.rules.specs.Operators.{Source, inlet, pack}
use Rattle.rules.specs.Machine.{Machine, Pipeline, Port, with_fault, fault_if, set_changed}
use Rattle.rules.specs.Wake.{any_full}
use Rattle.rules.specs.Drive.{observe_all, is_blocked}
use Rattle.laws.specs.Table.{by_bool, clash, same, other}
use Rattle.laws.specs.Rows.{batch_length}
use Rattle.laws.specs.Rising.{has_head}
use Rattle.order.specs.Inv.{Solid, Live, shut, source_of, inlets_of, port_of, queue_of, At, flat, still, Packs, shows_at, is_waits}
use Rattle.order.specs.State.{Busy, Stopped, OutletOf}
use Rattle.order.specs.Base.{at_get, get_at, sees_waiting, sees_ended, sees_ready}
use Rattle.order.specs.Observe.{Noted, Looked, looked}
use Rattle.order.specs.PackCount.{Apart}
use Rattle.order.specs.PackPlace.{PackPlace, pack_place}
use Rattle.order.specs.PackLook.{Look, look_ok}

-- only one that waits is taken for waiting
pub is_waiting_lem : (s : Seen) → is_waits s ≡ true → s ≡ waiting
is_waiting_lem waiting e = refl
is_waiting_lem ready e = clash (cc)
is_waiting_lem ended e = clash (cc)

-- no fault came up
pub unfaulted : (b : Bool) (m : Machine) → m.fault ≡ false → b ≡ false → fault_if b m ≡ m
unfaulted b m e d = let f : m.fault || b ≡ m.fault = rw (e, d) in ap (λ (x : Bool). with_fault x m) f

-- an inlet with a batch has rows to come, and one that has ended has none
pub some_rows : (F w : List Row) (b : Batch) (bs : List Batch) (q : List Batch) → F ≡ flat q ++ w → q ≡ b ∷ bs → Solid q → 0 < length F
some_rows F w b bs q f e s =
    let p : 0 < b.rows = (let h : Solid (b ∷ bs) = rw e at s in h.0) in
    rw (f, e, length-append (batch_rows b ++ flat bs) w, length-append (batch_rows b) (flat bs), batch_length b) (omega arith)

-- the test of `me` has been made: every inlet is seen as it is
pub record Tested (me : ℕ) (out : ℕ → List Row) (told : ℕ) (m : Machine) : Type 0 where
  pub busy : Busy me [] out told m
  pub source : source_of m.sources me ≡ pack
  pub room : any_full m me ≡ false
  pub right : (i x : ℕ) → At (inlets_of m.inlets me) i x → get waiting (get [] m.seen me) i ≡ shows_at m.ports m.queues x

-- what the invariant says of a pack's notes
pub noted_of : {P : List Pipeline} {S : List Source} {I : List (List ℕ)} {O : List Port} {Q : List (List Batch)} {C W : List InletSet} {E : List (List Seen)} (me : ℕ)
    → Packs P S I O Q C W E → Live P me → source_of S me ≡ pack → Noted (length (inlets_of I me)) (get [] W me) (get [] E me)
noted_of {I = I} me v l e = record {
  size = v.size me l e;
  waits = λ i b. v.waits me i (get 0 (inlets_of I me) i) l e (get_at 0 (inlets_of I me) i b);
  unique = v.unique me l e;
  within = λ i. v.within me i l e;
}

module _ (out : ℕ → List Row) (told me : ℕ) where
  -- after the changed inlets have been observed
  see_all : (m m' : Machine) (b : Busy me [] out told m) → source_of m.sources me ≡ pack → Looked me (get [] m.changed me) m m'
      → (i x : ℕ) → At (inlets_of m.inlets me) i x → get waiting (get [] m'.seen me) i ≡ shows_at m.ports m.queues x
  see_all m m' b e r i x a = on (b.inv.packs.seen me i x b.running.live e a)
    where
      at : PackPlace me m.stages (inlets_of m.inlets me) m.ports
      at = pack_place me b.inv.job b.inv.pipes b.inv.ports b.running.live e

      new : has i (get [] m.changed me) ≡ true → get waiting (get [] m'.seen me) i ≡ shows_at m.ports m.queues x
      new h = rw (at_get 0 (inlets_of m.inlets me) i x a) at (r.right i h)

      loud : OutletOf m.job me x → get waiting (get [] m'.seen me) i ≡ shows_at m.ports m.queues x
      loud (inl o) = absurd (at.notme i x a o.1)
      loud (inr o) = absurd (omega (arith, o.0, at.low))

      on : (has i (get [] m.changed me) ≡ true) ⊎ (get waiting (get [] m.seen me) i ≡ shows_at m.ports m.queues x) ⊎ ((port_of m.ports x).changed ≡ true)
          → get waiting (get [] m'.seen me) i ≡ shows_at m.ports m.queues x
      on (inl h) = new h
      on (inr (inl h)) = by_bool (has i (get [] m.changed me)) (λ c. new c) (λ c. r.left i c ∙ h)
      on (inr (inr h)) = loud (b.inv.quiet.marks x h)

  -- what the test writes
  test_look : (m m' : Machine) (b : Busy me [] out told m) → source_of m.sources me ≡ pack → Looked me (get [] m.changed me) m m'
      → Look me m m.queues m'.touched (put [] m.changed me []) m'.waits m'.seen
  unfolding has
  test_look m m' b e r = record {
    queue_other = λ x h. refl;
    queue_none = λ x h. h;
    queue_read = λ i x a. inl refl;
    touched_other = r.touched_other;
    touched_more = r.more;
    changed_other = λ p n. rw other;
    changed_known = λ i h. clash (cc (same [] m.changed me []));
    waits_other = r.waits_other;
    seen_other = r.seen_other;
    notes = r.notes (length (inlets_of m.inlets me)) (λ i h. b.inv.packs.known me i b.running.live e h) (noted_of me b.inv.packs b.running.live e);
    right = see_all m m' b e r;
  }

  -- the test has been made
  pub tested : (m : Machine) → Busy me [] out told m → source_of m.sources me ≡ pack → any_full m me ≡ false
      → Tested me out told (set_changed me [] (observe_all me (get [] m.changed me) m))
  tested m b e f =
      let m' : Machine = observe_all me (get [] m.changed me) m in
      let r : Looked me (get [] m.changed me) m m' = looked me (get [] m.changed me) m in
      subst (λ (z : Machine). Tested me out told (set_changed me [] z)) (sym r.only) (record {
        busy = look_ok out told me [] [] m m.queues m'.touched (put [] m.changed me []) m'.waits m'.seen b.inv.F b e (test_look m m' b e r) b.inv.flow b.inv.splits b.inv.delivered;
        source = e;
        room = f;
        right = see_all m m' b e r;
      })

  -- beside an inlet that has ended none has a batch: as many rows are to come of each
  pub tested_apart : (m : Machine) → Tested me out told m → Apart (length (inlets_of m.inlets me)) (get [] m.seen me)
  tested_apart m t i h bi bh ei eh =
      let xs : List ℕ = inlets_of m.inlets me in
      let x : ℕ = get 0 xs i in
      let y : ℕ = get 0 xs h in
      let ax : At xs i x = get_at 0 xs i bi in
      let ay : At xs h y = get_at 0 xs h bh in
      let v : _ = t.busy.inv in
      let at : PackPlace me m.stages xs m.ports = pack_place me v.job v.pipes v.ports t.busy.running.live t.source in
      let ex : (queue_of m.queues x ≡ []) × (shut m.ports x ≡ true) = sees_ended (queue_of m.queues x) (shut m.ports x) (sym (t.right i x ax) ∙ ei) in
      let ry : (b : Batch) × (bs : List Batch) × (queue_of m.queues y ≡ b ∷ bs) = sees_ready (queue_of m.queues y) (shut m.ports y) (sym (t.right h y ay) ∙ eh) in
      let fx : v.F x ≡ [] = v.flow.port x (at.below i x ax) ∙ rw (ex.0, ex.1) in
      let ly : 0 < length (v.F y) = some_rows (v.F y) (still (shut m.ports y) (v.W y)) ry.0 ry.1 (queue_of m.queues y) (v.flow.port y (at.below h y ay)) ry.2 (v.delivered.solid y) in
      let l : length (v.F x) ≡ length (v.F y) = v.flow.even me i h x y t.busy.running.live t.source ax ay in
      let z : length (v.F x) ≡ 0 = rw fx in
      omega (arith, ly, l, z)

  -- it waits for an inlet that is open and empty
  pub tested_stops : (m : Machine) (i : ℕ) (w : InletSet) → Tested me out told m → get [] m.waits me ≡ i ∷ w → Stopped me (is_blocked (inlet i)) out told m
  tested_stops m i w t e =
      let xs : List ℕ = inlets_of m.inlets me in
      let n : Noted (length xs) (get [] m.waits me) (get [] m.seen me) = noted_of me t.busy.inv.packs t.busy.running.live t.source in
      let h : has i (get [] m.waits me) ≡ true = rw e (has_head i w) in
      let b : i < length xs = n.within i h in
      let x : ℕ = get 0 xs i in
      let a : At xs i x = get_at 0 xs i b in
      let s : get waiting (get [] m.seen me) i ≡ waiting = is_waiting_lem (get waiting (get [] m.seen me) i) (sym (n.waits i b) ∙ h) in
      let o : (queue_of m.queues x ≡ []) × (shut m.ports x ≡ false) = sees_waiting (queue_of m.queues x) (shut m.ports x) (sym (t.right i x a) ∙ s) in
      record { inv = t.busy.inv; running = t.busy.running; stops = (t.busy.calm, (x, a, o.0, o.1)) }
