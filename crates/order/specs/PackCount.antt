-- The counts of a pack's test: inlets that have ended, and those that wait.
use Rattle.std.specs.Prelude.{◌≡◌, refl, ◌≢◌, true, false, List, [], ◌∷◌, ℕ, zero, suc, ◌+◌, ◌-◌, ◌<◌, ◌≤◌, length, ltb}
use Rattle.std.proofs.Common.{sym, ap, ◌∙◌, arith, ltb-true, ltb-false, eq-eqb}
use Rattle.rules.specs.Table.{get, has, filter}
use Rattle.rules.specs.InletSet.{InletSet, remove}
use Rattle.rules.specs.Port.{Seen, waiting, ready, ended}
use Rattle.rules.specs.Operators.{ended_count, pack_fault}
use Rattle.laws.specs.Table.{by_bool, by_eq, clash, get_past}
use Rattle.laws.specs.Rising.{has_head}
use Rattle.order.specs.Inv.{Differ, is_waits}
use Rattle.order.specs.Sets.{remove_same, remove_other, remove_unique, remove_length}
use Rattle.order.specs.Observe.{Noted}

-- an entry does not depend on the default
get_default : (d e : Seen) (es : List Seen) (i : ℕ) → i < length es → get d es i ≡ get e es i
get_default d e [] i h = absurd (omega arith)
get_default d e (x ∷ es) zero h = refl
get_default d e (x ∷ es) (suc i) h = get_default d e es i (omega arith)

-- how many wait
abbrev waits_count : List Seen → ℕ
waits_count es = length (filter is_waits es)

-- a set of different numbers from i on is as large as the number of places that it marks
set_none : (i : ℕ) (w : InletSet) → ((h : ℕ) → has h w ≡ true → i ≤ h) → ((h : ℕ) → has (i + h) w ≡ false) → length w ≡ 0
set_none i [] low none = refl
set_none i (x ∷ w) low none =
    let b : i ≤ x = low x (has_head x w) in
    let e : i + (x - i) ≡ x = omega arith in
    clash (cc (none (x - i), has_head x w))

-- a set of different numbers from i on is as large as the number of places that are seen waiting
set_count : (es : List Seen) (i : ℕ) (w : InletSet) → Differ w → ((h : ℕ) → has h w ≡ true → i ≤ h) → ((h : ℕ) → has (i + h) w ≡ is_waits (get ready es h)) → length w ≡ waits_count es
unfolding filter
set_count [] i w u low marks = set_none i w low marks
set_count (e ∷ es) i w u low marks =
    let at : (h : ℕ) → i + suc h ≡ suc i + h = λ h. omega arith in
    let z : i + 0 ≡ i = omega arith in
    by_bool (is_waits e)
    (λ k. rw (k, filter, ← remove_length i w (sym (rw z) ∙ marks 0 ∙ k)) (ap suc (set_count es (suc i) (remove i w) (remove_unique i w u)
    (λ h c. by_eq h i (λ d. clash (cc (remove_same i w u))) (λ n. let b : i ≤ h = low h (sym (remove_other i h w n) ∙ c) in omega arith))
    (λ h. let n : suc i + h ≢ i = omega arith in remove_other i (suc i + h) w n ∙ (rw (at h) at (marks (suc h)))))))
    (λ k. rw (k, filter) (set_count es (suc i) w u
    (λ h c. by_eq h i (λ d. clash (cc (marks 0))) (λ n. let b : i ≤ h = low h c in omega arith))
    (λ h. rw (at h) at (marks (suc h)))))

-- none is ready: every one has ended or waits
count_sum : (es : List Seen) → ((h : ℕ) → h < length es → get waiting es h ≢ ready) → ended_count es + waits_count es ≡ length es
unfolding filter
count_sum [] n = refl
count_sum (waiting ∷ es) n = let ih : ended_count es + waits_count es ≡ length es = count_sum es (λ h b. n (suc h) (omega arith)) in omega arith
count_sum (ready ∷ es) n = absurd (n 0 (omega arith) refl)
count_sum (ended ∷ es) n = let ih : ended_count es + waits_count es ≡ length es = count_sum es (λ h b. n (suc h) (omega arith)) in omega arith

-- some have ended: there is one
some_ended : (es : List Seen) → 0 < ended_count es → (i : ℕ) × (i < length es) × (get waiting es i ≡ ended)
unfolding filter
some_ended [] b = absurd (omega arith)
some_ended (waiting ∷ es) b = let r : (i : ℕ) × (i < length es) × (get waiting es i ≡ ended) = some_ended es b in (suc r.0, omega (arith, r.1), r.2)
some_ended (ready ∷ es) b = let r : (i : ℕ) × (i < length es) × (get waiting es i ≡ ended) = some_ended es b in (suc r.0, omega (arith, r.1), r.2)
some_ended (ended ∷ es) b = (0, omega arith, refl)

-- as many have ended as there are
ended_few : (es : List Seen) → ended_count es ≤ length es
unfolding filter
ended_few [] = omega arith
ended_few (waiting ∷ es) = let h : ended_count es ≤ length es = ended_few es in omega arith
ended_few (ready ∷ es) = let h : ended_count es ≤ length es = ended_few es in omega arith
ended_few (ended ∷ es) = let h : ended_count es ≤ length es = ended_few es in omega arith

-- as many have ended as there are: all have
pub all_ended : (es : List Seen) → ended_count es ≡ length es → (h : ℕ) → h < length es → get waiting es h ≡ ended
unfolding filter
all_ended [] e h b = absurd (omega arith)
all_ended (waiting ∷ es) e h b = absurd (let f : ended_count es ≤ length es = ended_few es in omega arith)
all_ended (ready ∷ es) e h b = absurd (let f : ended_count es ≤ length es = ended_few es in omega arith)
all_ended (ended ∷ es) e zero b = refl
all_ended (ended ∷ es) e (suc h) b = all_ended es (omega arith) h (omega arith)

-- all have ended: as many as there are
pub ended_all : (es : List Seen) → ((h : ℕ) → h < length es → get waiting es h ≡ ended) → ended_count es ≡ length es
unfolding filter
ended_all [] n = refl
ended_all (e ∷ es) n =
    rw (n 0 (omega arith), filter) (ap suc (ended_all es (λ h b. n (suc h) (omega arith))))

-- none is ready beside one that has ended
abbrev pub Apart : ℕ → List Seen → Type 0
Apart k es = (i h : ℕ) → i < k → h < k → get waiting es i ≡ ended → get waiting es h ≢ ready

-- exactly those seen waiting are in the set
noted_marks : (k : ℕ) (w : InletSet) (es : List Seen) → Noted k w es → (h : ℕ) → has h w ≡ is_waits (get ready es h)
noted_marks k w es v h = by_bool (ltb h k)
    (λ b. v.waits h (ltb-true h k b) ∙ ap is_waits (get_default waiting ready es h (omega (arith, v.size, ltb-true h k b))))
    (λ b. rw (get_past ready es h (omega (arith, v.size, ltb-false h k b)))
    (by_bool (has h w) (λ e. absurd (omega (arith, v.within h e, ltb-false h k b))) (λ e. e)))

-- the fields do not end at different rows
pub no_fault : (k : ℕ) (w : InletSet) (es : List Seen) → Noted k w es → Apart k es → pack_fault es w ≡ false
no_fault k w es v a = by_bool (ltb 0 (ended_count es)) (λ e. rw (e, eq-eqb (ended_count es + length w) (length es) (sum (ltb-true 0 (ended_count es) e)))) (λ e. rw e)
  where
    sum : 0 < ended_count es → ended_count es + length w ≡ length es
    sum b = let r : (i : ℕ) × (i < length es) × (get waiting es i ≡ ended) = some_ended es b in
        let c : length w ≡ waits_count es = set_count es 0 w v.unique (λ h e. omega arith) (λ h. let z : 0 + h ≡ h = omega arith in rw z (noted_marks k w es v h)) in
        rw c (count_sum es (λ h d. a r.0 h (omega (arith, r.1, v.size)) (omega (arith, v.size)) r.2))
