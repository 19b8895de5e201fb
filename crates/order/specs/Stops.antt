-- The state of a pipeline that has stopped, and its neighbours woken.
use Rattle.std.specs.Prelude.{◌≡◌, ◌≢◌, ◌⊎◌, false, ℕ, zero, suc, ◌<◌, ◌≤◌}
use Rattle.std.proofs.Math.Path.{refl, sym}
use Rattle.std.proofs.Common.{◌∙◌, arith}
use Rattle.std.proofs.Math.Logic.{inl, inr}
use Rattle.std.proofs.Math.Bool.{true}
use mathlib.Core.List.{List, []}
use Rattle.std.proofs.Math.ListN.{length}
use Rattle.rules.specs.Table.{put, has}
use Rattle.rules.specs.Plan.{Row, is_leaf}
use Rattle.rules.specs.Operators.{io, inlet, State, blocked, outlet, Source, segment, concat, pack}
use Rattle.rules.specs.Machine.{Machine, no_pipe, share_port, slot_places, places, pipe_at, source_at, outlets, set_touched}
use Rattle.rules.specs.Wake.{with_state, set_state, pass_marks}
use Rattle.rules.specs.Drive.{is_blocked, at_outlet, done, has_bytes, set_stopped, touched_ports, wake_neighbours}
use Rattle.laws.specs.Table.{clash, same, other, put_length}
use Rattle.order.specs.Inv.{There, shut, source_of, inlets_of, At, Sources, emitted, Idle, Full, is_run, is_io, pend}
use Rattle.order.specs.State.{Inv, all, no, OutletOf, Touched, Runs, Running, Stopped}
use Rattle.order.specs.Frame.{alike_put}
use Rattle.order.specs.Begin.{repiped, queued_put, waits_put, quiet_put}
use Rattle.order.specs.Wakes.{Waking, passes_ok}
use Rattle.order.specs.Writers.{writers_ok, passes_touched, writers_touched}
use Rattle.order.specs.Members.{has_outlet, has_touched}

-- a source that waits for its read has no bytes, and has not emitted
pend_bytes : (s : Source) → pend s ≡ true → has_bytes s ≡ false
pend_bytes (segment true false zero) e = refl
pend_bytes (segment true false (suc k)) e = clash (cc)
pend_bytes (segment true true k) e = clash (cc)
pend_bytes (segment false b k) e = clash (cc)
pend_bytes (concat i) e = clash (cc)
pend_bytes pack e = clash (cc)

pend_emitted : (s : Source) → pend s ≡ true → emitted s ≡ 0
pend_emitted (segment true false zero) e = refl
pend_emitted (segment true false (suc k)) e = clash (cc)
pend_emitted (segment true true k) e = clash (cc)
pend_emitted (segment false b k) e = clash (cc)
pend_emitted (concat i) e = clash (cc)
pend_emitted pack e = clash (cc)

-- the marks and the freed ports of a run that stops, as lists
abbrev pub Marked : ℕ → Machine → ℕ → Type 0
Marked me m x = has x (outlets m me) ≡ true

abbrev pub Freed : ℕ → Machine → ℕ → Type 0
Freed me m x = has x (touched_ports me m) ≡ true

module _ (out : ℕ → List Row) (told me : ℕ) (m : Machine) where
  -- a state for the pipeline that ran
  stop_at : (t : State) → Runs me [] all out told m → Running me m → is_run t ≡ false → pend (source_of m.sources me) ≡ is_io t
      → ((i : ℕ) → t ≡ blocked (inlet i) → (x : ℕ) × At (inlets_of m.inlets me) i x × Idle m.ports m.queues x)
      → (t ≡ outlet → (me < slot_places) × Full (Freed me m) m.queues me)
      → ((x l t : ℕ) → There m.ports x → x ≡ share_port l t → is_leaf m.job l ≡ true → t < length m.job.splits → Sources m.job m.pipes l me
      → (shut m.ports x ≡ true) ⊎ (emitted (source_of m.sources me) ≡ 1) → ⊥)
      → Inv places [] all all (Marked me m) (Freed me m) no out told (set_touched me [] (set_state me t m))
  stop_at t v r e i a b c =
      let P = m.pipes in
      let y = with_state t (pipe_at m me) in
      let T' = put [] m.touched me [] in
      let who : ℕ → Type 0 = λ p. p ≢ me in
      let o : (q : ℕ) → Unit {0} → q ≢ me → q ≢ me = λ q w n. n in
      repiped me places who all all all (OutletOf m.job me) (Marked me m) (Touched m me) (Freed me m) (λ p. p ≡ me) no out told m (put no_pipe P me y) m.ready T' v
      (alike_put P me y refl) (put_length no_pipe P me y (rw v.numbers.size (v.pipes.bound me r.live))) (λ q l u. u)
      (λ x l s q u k d f g h w. c x l s u k d f (rw h at g) (rw h at w))
      (queued_put P me y refl who all o m.ready m.ready v.queued (λ w. r.unqueued ∙ sym e) (λ q n. refl) (v.queued.counts me))
      (waits_put P me y refl who all o (Touched m me) (Freed me m) m.sources m.inlets m.ports m.queues v.waits (λ w. i) a b (λ q n f. has_touched m me q f))
      (quiet_put P me y refl who all o (OutletOf m.job me) (Marked me m) m.ports m.touched T' v.quiet (λ x d f. has_outlet m me x f (v.quiet.present x d))
      (λ q n. rw other) (λ w. rw same))

  -- blocked on a read
  pub stop_io : Stopped me (is_blocked io) out told m → Inv places [] all all (Marked me (set_stopped me (is_blocked io) m)) (Freed me (set_stopped me (is_blocked io) m)) no out told (set_touched me [] (set_stopped me (is_blocked io) m))
  unfolding set_stopped
  stop_io v = rw (pend_bytes (source_at m me) v.stops.0, set_stopped) (stop_at (blocked io) v.inv v.running refl v.stops.0 (λ i e. clash (cc)) (λ e. clash (cc)) shares)
    where
      shares : (x l t : ℕ) → There m.ports x → x ≡ share_port l t → is_leaf m.job l ≡ true → t < length m.job.splits → Sources m.job m.pipes l me
          → (shut m.ports x ≡ true) ⊎ (emitted (source_of m.sources me) ≡ 1) → ⊥
      shares x l t u k a b s (inl e) = clash (cc (e, v.stops.1 x (inr (s.1, (l, t, b, k, a, sym s.2))) u))
      shares x l t u k a b s (inr e) = clash (sym (pend_emitted (source_of m.sources me) v.stops.0) ∙ e)

  -- blocked on an inlet
  pub stop_inlet : (i : ℕ) → Stopped me (is_blocked (inlet i)) out told m → Inv places [] all all (Marked me (set_stopped me (is_blocked (inlet i)) m)) (Freed me (set_stopped me (is_blocked (inlet i)) m)) no out told (set_touched me [] (set_stopped me (is_blocked (inlet i)) m))
  unfolding set_stopped
  stop_inlet i v = let s = v.stops.1 in
      stop_at (blocked (inlet i)) v.inv v.running refl v.stops.0 (λ k e. let d : i ≡ k = cc in (s.0, rw d at s.1, inl (s.2, s.3))) (λ e. clash (cc))
      (λ x l t u k a b g h. let z : At [] i s.0 = rw (v.inv.pipes.shares me v.running.live g.1).none_in at s.1 in z)

  -- stopped at its outlet
  pub stop_outlet : Stopped me at_outlet out told m → Inv places [] all all (Marked me (set_stopped me at_outlet m)) (Freed me (set_stopped me at_outlet m)) no out told (set_touched me [] (set_stopped me at_outlet m))
  unfolding set_stopped
  stop_outlet v = let s = v.stops in
      stop_at outlet v.inv v.running refl s.0 (λ k e. clash (cc)) (λ e. (s.1, inl s.2)) (λ x l t u k a b g h. clash (let c : slot_places ≤ me = g.1 in let d : me < slot_places = s.1 in omega arith))

  -- done: it is still to go
  pub stop_done : Stopped me done out told m → Inv places [] (λ p. p ≢ me) (λ p. p ≢ me) (Marked me (set_stopped me done m)) (Freed me (set_stopped me done m)) (λ p. p ≡ me) out told (set_touched me [] (set_stopped me done m))
  unfolding set_stopped
  stop_done v = let w = v.inv in
      repiped me places (λ p. p ≢ me) (λ p. p ≢ me) (λ p. p ≢ me) (λ p. p ≢ me) (OutletOf m.job me) (Marked me m) (Touched m me) (Freed me m) (λ p. p ≡ me) (λ p. p ≡ me) out told m
      m.pipes m.ready (put [] m.touched me []) w (λ p. refl) refl (λ q l u. u) (λ x l t q u k d f g h e. h) w.queued
      (record { on_io = w.waits.on_io; on_inlet = w.waits.on_inlet; on_outlet = λ q l s. let o = w.waits.on_outlet q l s in (o.0, full q o.1) })
      (record { marks = λ x c. has_outlet m me x (w.quiet.marks x c) (w.quiet.present x c); touches = λ q l n. rw other (w.quiet.touches q l n); present = w.quiet.present })
    where
      full : (q : ℕ) → Full (Touched m me) m.queues q → Full (Freed me m) m.queues q
      full q (inl e) = inl e
      full q (inr e) = inr (has_touched m me q e)

-- readers are woken, then writers, and the touched inlets are forgotten
pub neighbours_ok : (m₀ : Machine) (me me' : ℕ) (who «open» busy : ℕ → Type 0) (out : ℕ → List Row) (told : ℕ) (m : Machine)
    → Waking m₀ me' who «open» (Marked me m) (Freed me m) busy out told (set_touched me [] m) → Waking m₀ me' who «open» no no busy out told (wake_neighbours me m)
neighbours_ok m₀ me me' who «open» busy out told m v =
    rw (← (writers_touched (touched_ports me m) me [] (pass_marks (outlets m me) m)), ← (passes_touched (outlets m me) me [] m))
    (writers_ok m₀ me' who «open» no busy out told (touched_ports me m) (pass_marks (outlets m me) (set_touched me [] m))
    (passes_ok m₀ me' who «open» (Freed me m) busy out told (outlets m me) (set_touched me [] m) v))
