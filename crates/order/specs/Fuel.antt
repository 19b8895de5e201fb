-- Fuel never runs out: neither a run's nor a step's.
use Rattle.std.specs.Prelude.{◌≡◌, refl, ◌⊎◌, true, ℕ, zero, suc, ◌<◌}
use Rattle.std.proofs.Common.{inl, inr, arith}
use Rattle.rules.specs.Machine.{Machine, zeroed}
use Rattle.rules.specs.Drive.{drive, patience}
use Rattle.rules.specs.Scan.{Turn, Answer, refuses, Inner, more, answers, inner, stepping}
use Rattle.laws.specs.Table.{by_bool}
use Rattle.order.specs.Inv.{Live}
use Rattle.order.specs.Ranged.{Ranged}
use Rattle.order.specs.Measure.{measure}
use Rattle.order.specs.Bounds.{load_bound, measure_bound}
use Rattle.order.specs.DriveStops.{Ended, drive_stops}
use Rattle.order.specs.ActionFalls.{action_falls}
use Rattle.order.specs.RangeAction.{action_ranged}

-- a run's fuel is enough
pub drive_ends : (m : Machine) (p : ℕ) → Ranged m → Live m.pipes p → Ended (drive patience p m)
drive_ends m p r is = drive_stops patience m p r is (omega (arith, load_bound m r))

-- an inner action or an answer
pub by_inner {ℓ} : {P : Type ℓ} (i : Inner) → ((a : Answer Turn) → i ≡ answers a → P) → ((m : Machine) → i ≡ more m → P) → P
by_inner (more m) a b = b m refl
by_inner (answers x) a b = a x refl

-- a step's answer: that of a state that the inner actions come to, or a cause of 14 there
abbrev pub Answered : Answer Turn → Type 0
Answered a = (k : Machine) × Ranged k × ((inner k ≡ answers a) ⊎ ((n : Machine) × (inner k ≡ more n) × (n.fault ≡ true) × (a ≡ refuses 14 zeroed)))

-- one inner action
answered_next : (f : ℕ) (m : Machine) → Ranged m → measure m < suc f → ((n : Machine) → Ranged n → measure n < f → Answered (stepping f n)) → Answered (stepping (suc f) m)
unfolding stepping
answered_next f m r h ih = by_inner (inner m)
    (λ a e. rw (e, stepping) (m, r, inl e))
    (λ n e. by_bool n.fault
    (λ d. rw (e, stepping, d) (m, r, inr (n, e, d, refl)))
    (λ d. let s = action_ranged m n r e in rw (e, stepping, d) (ih n s (omega (arith, h, action_falls m n r e s d)))))

-- a step never answers for lack of fuel
pub steps_answer : (f : ℕ) (m : Machine) → Ranged m → measure m < f → Answered (stepping f m)
steps_answer zero m r h = absurd (omega (arith, h))
steps_answer (suc f) m r h = answered_next f m r h (λ n s i. steps_answer f n s i)

-- one inner action, with two amounts of fuel
same_next : (f g : ℕ) (m : Machine) → Ranged m → measure m < suc f → measure m < suc g
    → ((n : Machine) → Ranged n → measure n < f → measure n < g → stepping f n ≡ stepping g n) → stepping (suc f) m ≡ stepping (suc g) m
unfolding stepping
same_next f g m r h i ih = by_inner (inner m)
    (λ a e. rw (e, stepping))
    (λ n e. by_bool n.fault
    (λ d. rw (e, stepping, d))
    (λ d.
    let s = action_ranged m n r e in
    let l = action_falls m n r e s d in
    rw (e, stepping, d) (ih n s (omega (arith, h, l)) (omega (arith, i, l)))))

-- more fuel than that changes nothing
pub steps_stop : (f g : ℕ) (m : Machine) → Ranged m → measure m < f → measure m < g → stepping f m ≡ stepping g m
steps_stop zero g m r h i = absurd (omega (arith, h))
steps_stop (suc f) zero m r h i = absurd (omega (arith, i))
steps_stop (suc f) (suc g) m r h i = same_next f g m r h i (λ n s j k. steps_stop f g n s j k)

-- what a step has is enough
pub step_enough : (m : Machine) → Ranged m → Answered (stepping patience m)
step_enough m r = steps_answer patience m r (measure_bound m r)
