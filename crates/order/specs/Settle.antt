-- The end of a run.
use Rattle.std.specs.Prelude.{◌≡◌, refl, ◌≢◌, ◌⊎◌, false, List, [], ℕ}
use Rattle.std.proofs.Common.{sym, ap, ◌∙◌, inl, inr}
use Rattle.rules.specs.Plan.{Row}
use Rattle.rules.specs.Operators.{io, inlet, runnable}
use Rattle.rules.specs.Machine.{Machine, places, set_touched}
use Rattle.rules.specs.Pipelines.{retire}
use Rattle.rules.specs.Drive.{Why, is_blocked, at_outlet, done, set_stopped, wake_neighbours, settle}
use Rattle.laws.specs.Table.{by_eq}
use Rattle.order.specs.Inv.{state_of, pipe_of, Ended}
use Rattle.order.specs.State.{Inv, all, no, Rests, Stopped}
use Rattle.order.specs.Wakes.{Waking, Kept, kept_refl}
use Rattle.order.specs.Stops.{Marked, Freed, stop_io, stop_inlet, stop_outlet, stop_done, neighbours_ok}
use Rattle.order.specs.Retire.{retire_ok}

-- a pipeline that waits is among those that are in order
settled : (out : ℕ → List Row) (told me : ℕ) (m : Machine) → Inv places [] all all (Marked me m) (Freed me m) no out told (set_touched me [] m) → Rests out told (wake_neighbours me m)
settled out told me m v = (neighbours_ok (set_touched me [] m) me places all all no out told m (record { inv = v; held = λ p. inl tt; kept = kept_refl (set_touched me [] m) })).inv

-- the one that is done goes
settled_done : (out : ℕ → List Row) (told me : ℕ) (m : Machine) → Stopped me done out told m → Rests out told (retire me (wake_neighbours me m))
unfolding set_stopped
settled_done out told me m v =
    let m' = wake_neighbours me m in
    let w : Waking (set_touched me [] m) places (λ p. p ≢ me) (λ p. p ≢ me) no no (λ p. p ≡ me) out told m' = neighbours_ok (set_touched me [] m) me places (λ p. p ≢ me) (λ p. p ≢ me) (λ p. p ≡ me) out told m
    (record { inv = stop_done out told me m v; held = λ p. by_eq p me (λ i. inr (rw i v.running.state, rw i v.running.unqueued)) (λ n. inl n); kept = kept_refl (set_touched me [] m) }) in
    let k : Kept (set_touched me [] m) m' = w.kept in
    let ej : m'.job ≡ m.job = ap (λ (n : Machine). n.job) k.is in
    let es : m'.sources ≡ m.sources = ap (λ (n : Machine). n.sources) k.is in
    let ei : m'.inlets ≡ m.inlets = ap (λ (n : Machine). n.inlets) k.is in
    let eq : m'.queues ≡ m.queues = ap (λ (n : Machine). n.queues) k.is in
    retire_ok out told me m' w.inv (k.pipes me ∙ v.running.live) (unqueued (w.held me)) (rw es v.stops.0)
    (λ i x a. let e : Ended m.ports m.queues x = v.stops.1 i x (rw ei at a) in ((k.ports x).closed ∙ e.0, rw eq e.1))
    (λ x o t. (k.ports x).closed ∙ v.stops.2 x (rw ej at o) (sym (k.ports x).there ∙ t))
  where
    unqueued : (me ≢ me) ⊎ ((state_of (wake_neighbours me m).pipes me ≡ runnable) × ((pipe_of (wake_neighbours me m).pipes me).queued ≡ false)) → (pipe_of (wake_neighbours me m).pipes me).queued ≡ false
    unqueued (inl n) = absurd (n refl)
    unqueued (inr h) = h.1

-- whatever a run stops at, nothing runs afterwards
pub settle_ok : (out : ℕ → List Row) (told me : ℕ) (m : Machine) (w : Why) → Stopped me w out told m → Rests out told (settle me w m)
unfolding set_stopped
settle_ok out told me m (is_blocked io) v = settled out told me (set_stopped me (is_blocked io) m) (stop_io out told me m v)
settle_ok out told me m (is_blocked (inlet i)) v = settled out told me (set_stopped me (is_blocked (inlet i)) m) (stop_inlet out told me m i v)
settle_ok out told me m at_outlet v = settled out told me (set_stopped me at_outlet m) (stop_outlet out told me m v)
settle_ok out told me m done v = settled_done out told me m v
