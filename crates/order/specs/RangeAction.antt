-- Ranges are kept by every inner action of a step and by a delivery, on any state.
use Rattle.std.specs.Prelude.{◌≡◌, Bool, true, false, ◌||◌, not, ℕ, ◌+◌, ◌<◌, length, eqb, leb}
use Rattle.std.proofs.Common.{inl, inr, arith, leb-false}
use Rattle.rules.specs.Table.{get}
use Rattle.rules.specs.Plan.{node_of}
use Rattle.rules.specs.Machine.{Machine, zeroed, no_read}
use Rattle.rules.specs.Scan.{more, inner, Answer, says, refuses, slots_of, Delivered, ok, delivered, faulted, delivering}
use Rattle.laws.specs.Table.{by_bool, or_left}
use Rattle.order.specs.Ranged.{Ranged}
use Rattle.order.specs.Actions.{Free, Action, action}
use Rattle.order.specs.RangeRun.{run_ranged}
use Rattle.order.specs.RangingCalls.{delivered_ranged}
use Rattle.order.specs.RangingAdvance.{advance_ranged}
use Rattle.order.specs.RangingLower.{activate_ranged}
use Rattle.order.specs.Steps.{found_free, found_below}

by_action : (m m' : Machine) → Ranged m → Free m → Action m m' → Ranged m'
by_action m m' r f (inl (k, ks, d, e)) = rw e (advance_ranged m k ks d f.outputs r)
by_action m m' r f (inr (inl (k, d, n, i, e))) =
    let low : k < 0 + m.job.slots = found_below m 0 m.job.slots k i in
    rw e (activate_ranged m k (omega arith) (found_free m (slots_of m) k i) n r)
by_action m m' r f (inr (inr (p, ps, d, q, e))) = rw e (run_ranged p ps m r q d f.news)

-- an inner action
pub action_ranged : (m m' : Machine) → Ranged m → inner m ≡ more m' → Ranged m'
action_ranged m m' r e = let t = action m m' e in by_action m m' r t.0 t.1

-- Deliveries

-- an answer leaves a state in range, unless it is a refusal
abbrev AnswerOk : Answer Delivered → Type 0
AnswerOk (says t m) = Ranged m
AnswerOk (refuses n m) = Unit {0}

faulted_ok : (m : Machine) → Ranged m → AnswerOk (faulted m)
faulted_ok m r = of_fault m.fault
  where
    of_fault : (b : Bool) → AnswerOk (elim b [ true ↦ refuses 14 zeroed | false ↦ says ok m ])
    of_fault true = tt
    of_fault false = r

pub delivering_ranged : (i n : ℕ) (m : Machine) → Ranged m → AnswerOk (delivering i n m)
unfolding delivering
delivering_ranged i n m r = by_bool (leb (length m.reads) i || (get no_read m.reads i).delivered)
    (λ e. rw (e, delivering) tt)
    (λ e. by_bool (not (eqb (node_of m.job (get no_read m.reads i).leaf).rows n))
    (λ d. rw (e, delivering, d) tt)
    (λ d. rw (e, delivering, d) (faulted_ok (delivered i (get no_read m.reads i) m) (delivered_ranged m i (leb-false (length m.reads) i (or_left _ _ e)) r))))
