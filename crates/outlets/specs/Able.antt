-- Marks can be passed on, one port after another.
use Rattle.std.specs.Prelude.{◌≡◌, refl, ◌≢◌, ◌⊎◌, Bool, true, false, ◌||◌, List, [], ◌∷◌, ℕ, zero, suc, ◌≤◌, ◌<◌, leb, ltb, length}
use Rattle.std.proofs.Common.{sym, ap, ◌∙◌, inl, inr, arith, lt-ltb}
use Rattle.std.proofs.Math.Bool.{or-true}
use Rattle.rules.specs.Table.{get, has}
use Rattle.rules.specs.InletSet.{InletSet, insert}
use Rattle.rules.specs.Operators.{runnable}
use Rattle.rules.specs.Machine.{Machine, Reader, nobody, slot, pipe, places, pipe_at, port_at, live, inlets_at, set_changed, set_port}
use Rattle.rules.specs.Wake.{set_state, enqueue, make_runnable, is_on, wake_reader, unmarked, tell, pass_mark}
use Rattle.laws.specs.Table.{by_bool, by_eq, clash, and_both}
use Rattle.order.specs.Inv.{There, reader_of}
use Rattle.order.specs.Base.{at_below}
use Rattle.order.specs.Tally.{few_differ}
use Rattle.laws.specs.Rising.{has_tail}
use Rattle.order.specs.RangeParts.{SetFits, Fits}
use Rattle.order.specs.RangeWake.{Heard, pass_fits}
use Rattle.inlet_set.specs.Insert.{accepts}
use Rattle.tables.specs.View.{view, Sized}
use Rattle.table_pipes.specs.Inlets.{inlets_few}
use Rattle.waking.specs.Choice.{cases}
use Rattle.waking.specs.Tells.{Told, Tells}
use Rattle.outlets.specs.declared.act.Act.{Act}
use Rattle.outlets.specs.declared.act.Act.TheVariants.{Push, Close, Pass}
use Rattle.outlets.specs.Outlet.{is_outlet, outlet_share}
use Rattle.outlets.specs.Act.{act_on, CanAct, Able, turn, sweep}

-- a set of different numbers below n, which is at most 23, accepts any of them
accepts_fits : (n i : ℕ) (c : InletSet) → n ≤ 23 → i < n → SetFits n c → accepts i c ≡ true
accepts_fits n i c h k f =
    and_both (ltb i 23) (has i c || ltb (length c) 23) (lt-ltb i 23 (omega arith))
    (by_bool (has i c) (λ e. ap (λ (b : Bool). b || ltb (length c) 23) e)
    (λ e.
    let w : length (i ∷ c) ≤ n = few_differ n (i ∷ c) (e, f.0) (λ q d. by_eq q i (λ z. omega arith) (λ z. f.1 q (sym (has_tail q i c z) ∙ d))) in
    ap (λ (b : Bool). has i c || b) (lt-ltb (length c) 23 (omega arith)) ∙ or-true (has i c)))

module _ (s : List ℕ) (z : Sized s) (f : Fits (view s)) where
  told_fits : (x : ℕ) (r : Reader) → Heard (view s) x r → length (view s).dirty < 3 → Told (view s) r
  told_fits x r (inl h) d = (
    d,
    λ p i e l.
        let k = rw e at h.reader in
        accepts_fits (length (inlets_at (view s) p)) i (get [] (view s).changed p) (inlets_few s z p (f.pipes p l).bound)
        (at_below (inlets_at (view s) p) i x k.2) (f.pipes p l).changed,
  )
  told_fits x r (inr h) d = (d, λ p i e l. clash (cc (h, e)))

  -- who is told of a port
  heard_of : (x : ℕ) → There (view s).ports x ⊎ (reader_of (view s).ports x ≡ nobody) → Heard (view s) x (reader_of (view s).ports x)
  heard_of x (inl t) = inl (f.ports.ports x t)
  heard_of x (inr e) = inr e

  -- any port's reader can be told
  pub tells_fits : (x : ℕ) → length (view s).dirty < 3 → Tells (view s) x
  tells_fits x d = told_fits x (reader_of (view s).ports x) (heard_of x (f.ports.vacant x)) d

-- what is to be done can be done to each port
pub able_can : (s : List ℕ) → Sized s → (a : Act) (x : ℕ) → Able a (view s) → CanAct a (view s) x
able_can s z Push x h = tt
able_can s z Close x h = tt
able_can s z Pass x h = tells_fits s z h.0 x h.1

-- The dirty slots

dirty_if : (b : Bool) (m x y : Machine) → x.dirty ≡ m.dirty → y.dirty ≡ m.dirty → (cases b x y).dirty ≡ m.dirty
dirty_if true m x y e f = e
dirty_if false m x y e f = f

reader_dirty : (m : Machine) (p i : ℕ) → (wake_reader p i m).dirty ≡ m.dirty
unfolding wake_reader make_runnable
reader_dirty m p i =
    let n = set_changed p (insert i (get [] m.changed p)) m in
    let k = set_state p runnable n in
    dirty_if (live m p) m _ m
    (dirty_if (is_on (pipe_at m p).state i) m (make_runnable p n) n
    (dirty_if (pipe_at n p).queued m k (enqueue p k) refl (dirty_if (leb places (length k.ready)) m _ _ refl refl)) refl) refl

tell_dirty : (r : Reader) (x : ℕ) (m : Machine) → r ≢ slot → (tell r x m).dirty ≡ m.dirty
unfolding tell
tell_dirty nobody x m h = refl
tell_dirty slot x m h = absurd (h refl)
tell_dirty (pipe p i) x m h = reader_dirty m p i

pass_dirty : (m : Machine) (x : ℕ) → (port_at m x).reader ≢ slot → (pass_mark x m).dirty ≡ m.dirty
unfolding pass_mark
pass_dirty m x h = dirty_if (port_at m x).changed m _ m (tell_dirty (port_at m x).reader x (set_port x (unmarked (port_at m x)) m) h) refl

-- no slot reads a shared port
pass_able : (m : Machine) (x : ℕ) → 72 ≤ x → There m.ports x → Able Pass m → Able Pass (pass_mark x m)
pass_able m x h t a =
    let g = a.0.ports.ports x t in
    let n : (port_at m x).reader ≢ slot = λ e. let r = rw e at g.reader in omega (arith, r.0) in
    (pass_fits m x a.0 g.bound (inl g) (λ e. absurd (n e)), rw (pass_dirty m x n) a.1)

able_act : (a : Act) (m : Machine) (x : ℕ) → 72 ≤ x → There m.ports x → Able a m → Able a (act_on a x m)
unfolding act_on
able_act Push m x h t w = tt
able_act Close m x h t w = tt
able_act Pass m x h t w = pass_able m x h t w

-- and after one port it still can
pub able_next : (a : Act) (m : Machine) (p x : ℕ) → 72 ≤ x → Able a m → Able a (turn a p x m)
unfolding turn
able_next a m p x h w = by_bool (is_outlet m p x) (λ e. rw (e, turn) (able_act a m x h (outlet_share m p x e).0 w)) (λ e. rw (e, turn) w)

-- and after many
pub able_sweep : (a : Act) (p n x : ℕ) (m : Machine) → 72 ≤ x → Able a m → Able a (sweep a p n x m)
unfolding sweep
able_sweep a p zero x m h w = w
able_sweep a p (suc n) x m h w = able_sweep a p n (suc x) (turn a p x m) (omega arith) (able_next a m p x h w)
