-- Waking the neighbours after a run.
use Rattle.std.specs.Prelude.{◌≡◌, ◌≢◌, ◌⊎◌, false, length, ◌<◌, ℕ, ltb}
use Rattle.std.proofs.Math.Path.{refl, sym}
use Rattle.std.proofs.Common.{ap, ◌∙◌, inl, inr}
use Rattle.std.proofs.Math.Bool.{true}
use mathlib.Core.List.{List, [], ◌∷◌}
use borrow.Author.Tests.{eqb-true, eq-eqb, ltb-true, ltb-false}
use Rattle.rules.specs.Table.{get, put, has}
use Rattle.rules.specs.Plan.{Row}
use Rattle.rules.specs.InletSet.{InletSet, insert}
use Rattle.rules.specs.Operators.{io, inlet, State, runnable, blocked, outlet}
use Rattle.rules.specs.Machine.{Machine, Pipeline, Port, Reader, nobody, slot, pipe, no_pipe, slot_at_place, slot_places, pipe_at, port_at, live, set_port, set_changed, with_ready, with_pipes, with_ports, with_changed, with_dirty}
use Rattle.rules.specs.Wake.{make_runnable, is_on, at_outlet, wake_reader, mark_dirty, unmarked, tell, pass_mark, pass_marks}
use Rattle.laws.specs.Table.{by_bool, by_eq, clash, same, other}
use Rattle.order.specs.Inv.{inlets_of, Live, There, port_of, reader_of, state_of, pipe_of, SlotPort, is_run, is_io}
use Rattle.order.specs.State.{Inv, no}
use Rattle.order.specs.Base.{at_below}
use Rattle.order.specs.Count.{room}
use Rattle.order.specs.Frame.{Alike, alike_put, Port-alike, Ports-alike, ports_refl, ports_put}
use Rattle.order.specs.Runnable.{awake, stacked, runnable_is, runnable_ok, runnable_port}
use Rattle.order.specs.Marks.{has_inserted, has_cons, louder, changed_ok, dirty_ok, unmark_ok}

-- what waking writes: states, the stack, changed inlets, dirty slots and marks
abbrev pub rewoken : Machine → Machine → Machine
rewoken m' m = with_dirty m'.dirty (with_ports m'.ports (with_changed m'.changed (with_ready m'.ready (with_pipes m'.pipes m))))

-- and what it keeps: the same pipelines are in use, and ports change their marks only
pub record Kept (m m' : Machine) : Type 0 where
  pub is : m' ≡ rewoken m' m
  pub pipes : Alike m.pipes m'.pipes
  pub ports : Ports-alike m.ports m'.ports

-- nothing has changed; and one after another
pub kept_refl : (m : Machine) → Kept m m
kept_refl m = record { is = refl; pipes = λ p. refl; ports = ports_refl m.ports }

kept_trans : (l m n : Machine) → Kept l m → Kept m n → Kept l n
kept_trans l m n v w = record {
  is = w.is ∙ ap (rewoken n) v.is;
  pipes = λ p. w.pipes p ∙ v.pipes p;
  ports = λ z. record { there = (w.ports z).there ∙ (v.ports z).there; closed = (w.ports z).closed ∙ (v.ports z).closed; reader = (w.ports z).reader ∙ (v.ports z).reader };
}

-- one pipeline is woken; inlets and slots are noted; a mark goes
kept_runnable : (m : Machine) (p : ℕ) (y : Pipeline) (ready : List ℕ) → y.live ≡ (pipe_of m.pipes p).live → Kept m (with_ready ready (with_pipes (put no_pipe m.pipes p y) m))
kept_runnable m p y ready e = record { is = refl; pipes = alike_put m.pipes p y e; ports = ports_refl m.ports }

kept_noted : (m : Machine) (C : List InletSet) (D : List ℕ) → Kept m (with_dirty D (with_changed C m))
kept_noted m C D = record { is = refl; pipes = λ p. refl; ports = ports_refl m.ports }

kept_port : (m : Machine) (x : ℕ) (y : Port) → Port-alike (port_of m.ports x) y → Kept m (set_port x y m)
kept_port m x y e = record { is = refl; pipes = λ p. refl; ports = ports_put m.ports x y e }

-- who is not in order is runnable and not queued: it is the one that runs
abbrev pub Held : (ℕ → Type 0) → List Pipeline → Type 0
Held who P = (p : ℕ) → who p ⊎ ((state_of P p ≡ runnable) × ((pipe_of P p).queued ≡ false))

-- while neighbours are woken; m₀: before
pub record Waking (m₀ : Machine) (me : ℕ) (who «open» loud freed busy : ℕ → Type 0) (out : ℕ → List Row) (told : ℕ) (m : Machine) : Type 0 where
  pub inv : Inv me [] who «open» loud freed busy out told m
  pub held : Held who m.pipes
  pub kept : Kept m₀ m

-- what a test of a state says
on_that : (s : State) (i : ℕ) → is_on s i ≡ true → s ≡ blocked (inlet i)
on_that runnable i e = clash (cc)
on_that (blocked io) i e = clash (cc)
on_that (blocked (inlet k)) i e = rw (eqb-true k i e)
on_that outlet i e = clash (cc)

pub at_outlet_lem : (s : State) → at_outlet s ≡ true → s ≡ outlet
at_outlet_lem runnable e = clash (cc)
at_outlet_lem (blocked b) e = clash (cc)
at_outlet_lem outlet e = refl

-- what a port's reader knows once it was told
abbrev Told : ℕ → Reader → Machine → Type 0
Told x nobody m = Unit {0}
Told x slot m = has (slot_at_place x) m.dirty ≡ true
Told x (pipe p i) m = (state_of m.pipes p ≢ blocked (inlet i)) × (has i (get [] m.changed p) ≡ true)

-- the same of an equal reader
told_as : (x : ℕ) (r s : Reader) (m : Machine) → r ≡ s → Told x r m → Told x s m
told_as x r s m e t = rw (← e) t

-- another pipeline is woken
held_put : (who : ℕ → Type 0) (P : List Pipeline) (p q : ℕ) (y : Pipeline) → q ≢ p
    → who q ⊎ ((state_of P q ≡ runnable) × ((pipe_of P q).queued ≡ false)) → who q ⊎ ((state_of (put no_pipe P p y) q ≡ runnable) × ((pipe_of (put no_pipe P p y) q).queued ≡ false))
held_put who P p q y n (inl w) = inl w
held_put who P p q y n (inr h) = let e = other no_pipe P p q y n in inr (ap (λ (x : Pipeline). x.state) e ∙ h.0, ap (λ (x : Pipeline). x.queued) e ∙ h.1)

module _ (m₀ : Machine) (me : ℕ) (who «open» loud freed busy : ℕ → Type 0) (out : ℕ → List Row) (told : ℕ) where
  -- a pipeline that stops at an inlet or an outlet is woken
  pub wake_ok : (p : ℕ) (m : Machine) → Waking m₀ me who «open» loud freed busy out told m → Live m.pipes p → is_run (state_of m.pipes p) ≡ false → is_io (state_of m.pipes p) ≡ false
      → Waking m₀ me who «open» loud freed busy out told (make_runnable p m) × (state_of (make_runnable p m).pipes p ≡ runnable) × ((make_runnable p m).changed ≡ m.changed)
  wake_ok p m v l e d = go (v.held p)
    where
      is : make_runnable p m ≡ with_ready (stacked p (pipe_at m p).queued m.ready) (with_pipes (put no_pipe m.pipes p (awake (pipe_at m p))) m)
      is = runnable_is p m (room who m.pipes m.ready p v.inv.queued v.inv.pipes.bound l)

      go : who p ⊎ ((state_of m.pipes p ≡ runnable) × ((pipe_of m.pipes p).queued ≡ false))
          → Waking m₀ me who «open» loud freed busy out told (make_runnable p m) × (state_of (make_runnable p m).pipes p ≡ runnable) × ((make_runnable p m).changed ≡ m.changed)
      go (inr h) = clash (cc (e, h.0))
      go (inl w) = (
        record {
          inv = runnable_ok me me who who «open» loud freed busy out told p m v.inv (λ q h n. h) l (v.inv.waits.on_io p l w ∙ d) (λ h. v.inv.quiet.touches p l h);
          held = rw is (λ q. by_eq q p (λ i. inl (rw i w)) (λ n. held_put who m.pipes p q (awake (pipe_at m p)) n (v.held q)));
          kept = rw is (kept_trans m₀ m _ v.kept (kept_runnable m p (awake (pipe_at m p)) (stacked p (pipe_at m p).queued m.ready) refl));
        },
        rw is (ap (λ (x : Pipeline). x.state) (same no_pipe m.pipes p (awake (pipe_at m p)))),
        rw is,
      )

  -- a reader is told: the inlet is changed, and it does not wait there any more
  reader_ok_lem : (p i : ℕ) (m : Machine) → Waking m₀ me who «open» loud freed busy out told m → Live m.pipes p → i < length (inlets_of m.inlets p)
      → Waking m₀ me who «open» loud freed busy out told (wake_reader p i m) × (state_of (wake_reader p i m).pipes p ≢ blocked (inlet i)) × (has i (get [] (wake_reader p i m).changed p) ≡ true)
  unfolding wake_reader
  reader_ok_lem p i m v l b =
      let m' = set_changed p (insert i (get [] m.changed p)) m in
      let v' : Waking m₀ me who «open» loud freed busy out told m' = record {
        inv = changed_ok me who «open» loud freed busy out told m v.inv p i b;
        held = v.held;
        kept = kept_trans m₀ m m' v.kept (kept_noted m m'.changed m.dirty);
      } in
      let c : has i (get [] m'.changed p) ≡ true = rw same (has_inserted i (get [] m.changed p)) in
      by_bool (is_on (pipe_at m p).state i)
      (λ e. let s : state_of m.pipes p ≡ blocked (inlet i) = on_that (state_of m.pipes p) i e in
      let w = wake_ok p m' v' l (rw s) (rw s) in
      rw (l, wake_reader, e) (w.0, λ h. clash (cc (h, w.1)), rw w.2 c))
      (λ e. rw (l, wake_reader, e) (v', λ h. clash (cc (e, h, eq-eqb i i refl)), c))

  -- the reader of a port is told
  tell_ok : (x : ℕ) (r : Reader) (m : Machine) → reader_of m.ports x ≡ r → There m.ports x → Waking m₀ me who «open» loud freed busy out told m
      → Waking m₀ me who «open» loud freed busy out told (tell r x m) × Told x r (tell r x m)
  unfolding tell
  tell_ok x nobody m e t v = (v, tt)
  tell_ok x (pipe p i) m e t v = let r = v.inv.ports.readers x p i t e in let w = reader_ok_lem p i m v r.0 (at_below (inlets_of m.inlets p) i x r.1) in (w.0, (w.1, w.2))
  tell_ok x slot m e t v = by_bool (ltb x slot_places)
      (λ h. let y : SlotPort m.job m.active m.ports x = v.inv.ports.slots x (ltb-true x slot_places h) t in (
        record {
          inv = dirty_ok me who «open» loud freed busy out told m v.inv (slot_at_place x) y.split y.is;
          held = v.held;
          kept = kept_trans m₀ m (mark_dirty (slot_at_place x) m) v.kept (kept_noted m m.changed (insert (slot_at_place x) m.dirty));
        },
        has_inserted (slot_at_place x) m.dirty,
      ))
      (λ h. absurd ((v.inv.shares.ports x (ltb-false x slot_places h) t).unslotted e))

-- it does not matter when the mark goes
reader_port : (p i x : ℕ) (y : Port) (m : Machine) → wake_reader p i (set_port x y m) ≡ set_port x y (wake_reader p i m)
unfolding wake_reader
reader_port p i x y m = by_bool (live m p)
    (λ l. by_bool (is_on (pipe_at m p).state i) (λ e. rw (l, wake_reader, e) (runnable_port p x y (set_changed p (insert i (get [] m.changed p)) m))) (λ e. rw (l, wake_reader, e)))
    (λ l. rw (l, wake_reader))

-- nor who is told
tell_port : (r : Reader) (x : ℕ) (y : Port) (m : Machine) → tell r x (set_port x y m) ≡ set_port x y (tell r x m)
unfolding tell
tell_port nobody x y m = refl
tell_port slot x y m = refl
tell_port (pipe p i) x y m = reader_port p i x y m

module _ (m₀ : Machine) (me : ℕ) (who «open» freed busy : ℕ → Type 0) (out : ℕ → List Row) (told : ℕ) where
  -- the mark of a port is passed on
  pub pass_ok : (loud loud' : ℕ → Type 0) (x : ℕ) (m : Machine) → ((z : ℕ) → z ≢ x → loud z → loud' z)
      → Waking m₀ me who «open» loud freed busy out told m → Waking m₀ me who «open» loud' freed busy out told (pass_mark x m)
  unfolding pass_mark
  pass_ok loud loud' x m f v = by_bool (port_at m x).changed
      (λ c. let r = reader_of m.ports x in
      let y = unmarked (port_at m x) in
      let m' = tell r x m in
      let w : Waking m me who «open» loud freed busy out told m' × Told x r m' = tell_ok m me who «open» loud freed busy out told x r m refl (v.inv.quiet.present x c)
      (record { inv = v.inv; held = v.held; kept = kept_refl m }) in
      let k : Port-alike (port_of m'.ports x) y = let a = w.0.kept.ports x in record { there = sym a.there; closed = sym a.closed; reader = sym a.reader } in
      rw (c, pass_mark, tell_port r x y m) (record {
        inv = unmark_ok me who «open» loud freed busy out told m' w.0.inv x y loud' k refl f
            (λ p i l e. told_as x r (pipe p i) m' (k.reader ∙ e) w.1)
            (λ e. told_as x r slot m' (k.reader ∙ e) w.1);
        held = w.0.held;
        kept = kept_trans m₀ m' (set_port x y m') (kept_trans m₀ m m' v.kept w.0.kept) (kept_port m' x y k);
      }))
      (λ c. rw (c, pass_mark) (record { inv = louder me who «open» loud freed busy out told m v.inv loud' (λ z d l. by_eq z x (λ i. clash (cc)) (λ n. f z n l)); held = v.held; kept = v.kept }))

  -- those of all outlets
  pub passes_ok : (xs : List ℕ) (m : Machine) → Waking m₀ me who «open» (λ z. has z xs ≡ true) freed busy out told m → Waking m₀ me who «open» no freed busy out told (pass_marks xs m)
  unfolding pass_marks has
  passes_ok [] m v = record { inv = louder me who «open» (λ z. has z [] ≡ true) freed busy out told m v.inv no (λ z c l. clash (cc)); held = v.held; kept = v.kept }
  passes_ok (x ∷ xs) m v = passes_ok xs (pass_mark x m) (pass_ok (λ z. has z (x ∷ xs) ≡ true) (λ z. has z xs ≡ true) x m (λ z n l. has_cons z x xs l n) v)
