-- A run ends before its fuel does.
use Rattle.std.specs.Prelude.{◌≡◌, true, ℕ, zero, suc, ◌<◌}
use Rattle.std.proofs.Common.{arith}
use Rattle.rules.specs.Machine.{Machine}
use Rattle.rules.specs.Drive.{Round, again, stop, round, drive}
use Rattle.laws.specs.Table.{by_bool}
use Rattle.order.specs.Inv.{Live}
use Rattle.order.specs.Ranged.{Ranged}
use Rattle.order.specs.Measure.{load}
use Rattle.order.specs.RangeRun.{round_ranged}
use Rattle.order.specs.RoundFalls.{round_falls}
use Rattle.order.specs.Base.{by_round}

-- a run that ended: with an answer, or with a cause of 14
abbrev pub Ended : Round → Type 0
Ended (again m) = m.fault ≡ true
Ended (stop w m) = Unit {0}

-- one round
stops_next : (f : ℕ) (m : Machine) (p : ℕ) → Ranged m → Live m.pipes p → load m < suc f
    → ((m' : Machine) → Ranged m' → Live m'.pipes p → load m' < f → Ended (drive f p m')) → Ended (drive (suc f) p m)
unfolding drive
stops_next f m p r is h ih = by_round (round p m)
    (λ m' e. by_bool m'.fault
    (λ d. rw (e, drive, d) d)
    (λ d.
    let k = round_ranged m m' p r is e in
    rw (e, drive, d) (ih m' k.0 k.1 (omega (arith, h, (round_falls m r p is m' e).0)))))
    (λ w m' e. rw (e, drive) tt)

-- a run ends, if it has more fuel than load
pub drive_stops : (f : ℕ) (m : Machine) (p : ℕ) → Ranged m → Live m.pipes p → load m < f → Ended (drive f p m)
drive_stops zero m p r is h = absurd (omega (arith, h))
drive_stops (suc f) m p r is h = stops_next f m p r is h (λ m' r' is' h'. drive_stops f m' p r' is' h')

-- one round, with two amounts of fuel
same_next : (f g : ℕ) (m : Machine) (p : ℕ) → Ranged m → Live m.pipes p → load m < suc f → load m < suc g
    → ((m' : Machine) → Ranged m' → Live m'.pipes p → load m' < f → load m' < g → drive f p m' ≡ drive g p m') → drive (suc f) p m ≡ drive (suc g) p m
unfolding drive
same_next f g m p r is h i ih = by_round (round p m)
    (λ m' e. by_bool m'.fault
    (λ d. rw (e, drive, d))
    (λ d.
    let k = round_ranged m m' p r is e in
    let l = (round_falls m r p is m' e).0 in
    rw (e, drive, d) (ih m' k.0 k.1 (omega (arith, h, l)) (omega (arith, i, l)))))
    (λ w m' e. rw (e, drive))

-- more fuel than that changes nothing
pub drive_same : (f g : ℕ) (m : Machine) (p : ℕ) → Ranged m → Live m.pipes p → load m < f → load m < g → drive f p m ≡ drive g p m
drive_same zero g m p r is h i = absurd (omega (arith, h))
drive_same (suc f) zero m p r is h i = absurd (omega (arith, i))
drive_same (suc f) (suc g) m p r is h i = same_next f g m p r is h i (λ m' r' is' h' i'. drive_same f g m' p r' is' h' i')
