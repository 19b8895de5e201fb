-- A split's runs: what a range of the root's rows cuts of them, and that they are within the split, each and together.
use Rattle.std.specs.Prelude.{◌≡◌, Bool, true, false, ◌||◌, not, ℕ, ◌+◌, ◌-◌, ◌≤◌, ◌<◌, min, max, length, ltb, eqb}
use mathlib.Core.List.{List, [], ◌∷◌, flat_map}
use Rattle.std.proofs.Math.Option.{Option, none, some}
use Rattle.std.proofs.Common.{arith, ltb-true, ltb-false, lt-ltb, le-ltb, leb-false}
use Rattle.std.proofs.lemmas.Bool.{eqb-false}
use Rattle.rules.specs.Table.{is_empty, sum_of}
use Rattle.rules.specs.Job.{Run, run_fault, runs_fault, not_after}
use Rattle.rules.specs.Plan.{cut}
use Rattle.laws.specs.Table.{by_bool, clash, or_left, or_right}
use Rattle.laws.specs.Rows.{All}

-- the runs cut to the rows from lo to hi
abbrev pub cuts : ℕ → ℕ → ℕ → List Run → List Run
cuts b lo hi rs = flat_map (cut b lo hi) rs

-- where a run of rows from b begins and ends within lo to hi
abbrev pub cut_start : ℕ → ℕ → Run → ℕ
cut_start b lo r = max (b + r.start) lo

abbrev pub cut_end : ℕ → ℕ → Run → ℕ
cut_end b hi r = min (b + r.start + r.size) hi

-- cases of an order
abbrev pub by_less {ℓ} : {P : Type ℓ} (x y : ℕ) → (x < y → P) → (y ≤ x → P) → P
by_less x y t f = by_bool (ltb x y) (λ e. t (ltb-true x y e)) (λ e. f (ltb-false x y e))

-- what a cut leaves of the first run, and of the others
pub cuts_more : (b lo hi : ℕ) (r : Run) (rs : List Run) → cut_start b lo r < cut_end b hi r
    → cuts b lo hi (r ∷ rs) ≡ record { start = cut_start b lo r - lo; size = cut_end b hi r - cut_start b lo r } ∷ cuts b lo hi rs
unfolding flat_map
cuts_more b lo hi r rs h = rw (lt-ltb (cut_start b lo r) (cut_end b hi r) h)

pub cuts_less : (b lo hi : ℕ) (r : Run) (rs : List Run) → cut_end b hi r ≤ cut_start b lo r → cuts b lo hi (r ∷ rs) ≡ cuts b lo hi rs
unfolding flat_map
cuts_less b lo hi r rs h = rw (le-ltb (cut_start b lo r) (cut_end b hi r) h)

-- a run that was cut is not empty and within the range
pub cuts_sound : (b lo hi : ℕ) (rs : List Run) → All (λ q. (1 ≤ q.size) × (q.start + q.size ≤ hi - lo)) (cuts b lo hi rs)
unfolding flat_map
cuts_sound b lo hi [] = tt
cuts_sound b lo hi (r ∷ rs) = by_less (cut_start b lo r) (cut_end b hi r)
    (λ h. rw (cuts_more b lo hi r rs h) ((omega arith, omega arith), cuts_sound b lo hi rs))
    (λ h. rw (cuts_less b lo hi r rs h) (cuts_sound b lo hi rs))

-- no more runs than before
pub cuts_few : (b lo hi : ℕ) (rs : List Run) → length (cuts b lo hi rs) ≤ length rs
unfolding flat_map
cuts_few b lo hi [] = omega arith
cuts_few b lo hi (r ∷ rs) = by_less (cut_start b lo r) (cut_end b hi r)
    (λ h. rw (cuts_more b lo hi r rs h) (omega (arith, cuts_few b lo hi rs)))
    (λ h. rw (cuts_less b lo hi r rs h) (omega (arith, cuts_few b lo hi rs)))

-- a wider range keeps what a narrower keeps
pub cuts_wider : (b lo hi lo' hi' : ℕ) → lo' ≤ lo → hi ≤ hi' → (rs : List Run) → not (is_empty (cuts b lo hi rs)) ≡ true → not (is_empty (cuts b lo' hi' rs)) ≡ true
unfolding flat_map is_empty
cuts_wider b lo hi lo' hi' p q [] e = e
cuts_wider b lo hi lo' hi' p q (r ∷ rs) e = by_less (cut_start b lo' r) (cut_end b hi' r)
    (λ h. rw (cuts_more b lo' hi' r rs h))
    (λ h. rw (cuts_less b lo' hi' r rs h) (cuts_wider b lo hi lo' hi' p q rs (rw (cuts_less b lo hi r rs (omega arith)) at e)))

-- where something is kept, some run has a row in the range
pub cuts_some {ℓ} : (P : Run → Type ℓ) (b lo hi : ℕ) (rs : List Run) → All P rs → not (is_empty (cuts b lo hi rs)) ≡ true
    → (r : Run) × P r × (cut_start b lo r < cut_end b hi r)
unfolding flat_map is_empty
cuts_some P b lo hi [] h e = clash (cc)
cuts_some P b lo hi (r ∷ rs) h e = by_less (cut_start b lo r) (cut_end b hi r)
    (λ k. (r, h.0, k))
    (λ k. cuts_some P b lo hi rs h.1 (rw (cuts_less b lo hi r rs k) at e))

-- a row that a run within the split from b to e has in a range
pub cut_spot : (b e lo hi : ℕ) (r : Run) → b ≤ e → r.start + r.size ≤ e - b → cut_start b lo r < cut_end b hi r
    → (x : ℕ) × (lo ≤ x) × (x < hi) × (b ≤ x) × (x < e)
cut_spot b e lo hi r o h k = (cut_start b lo r, omega arith, omega arith, omega arith, omega arith)

-- a run without a fault has rows, ends within the split, and is not late
pub run_within : (size : ℕ) (r : Run) (late : Bool) → eqb r.size 0 || ltb size (r.start + r.size) || late ≡ false
    → (1 ≤ r.size) × (r.start + r.size ≤ size) × (late ≡ false)
run_within size r late e =
    let a : eqb r.size 0 || ltb size (r.start + r.size) ≡ false = or_left _ late e in
    let some_rows : r.size ≡ 0 → ⊥ = eqb-false r.size 0 (or_left _ (ltb size (r.start + r.size)) a) in
    let fits : r.start + r.size ≤ size = ltb-false size (r.start + r.size) (or_right (eqb r.size 0) _ a) in
    (omega arith, fits, or_right (eqb r.size 0 || ltb size (r.start + r.size)) late e)

-- the runs of a split are not empty and within it
pub runs_within : (size : ℕ) (before : Option ℕ) (rs : List Run) → runs_fault size before rs ≡ false → All (λ r. (1 ≤ r.size) × (r.start + r.size ≤ size)) rs
unfolding runs_fault
runs_within size before [] e = tt
runs_within size before (r ∷ rs) e =
    let w = run_within size r (not_after r.start before) (or_left _ (runs_fault size (some (r.start + r.size)) rs) e) in
    ((w.0, w.1), runs_within size (some (r.start + r.size)) rs (or_right (run_fault size before r) _ e))

-- the rows of runs, together
abbrev pub sizes : List Run → ℕ
sizes rs = sum_of (λ (r : Run). r.size) rs

abbrev pub end_of : Option ℕ → ℕ
end_of none = 0
end_of (some e) = e

not_before : (n : ℕ) (before : Option ℕ) → not_after n before ≡ false → end_of before ≤ n
not_before n none f = omega arith
not_before n (some e) f = omega (arith, leb-false n e f)

-- they are no more than the split has behind the run before
pub runs_few : (size : ℕ) (before : Option ℕ) (rs : List Run) → end_of before ≤ size → runs_fault size before rs ≡ false → end_of before + sizes rs ≤ size
unfolding runs_fault sum_of
runs_few size before [] h f = omega arith
runs_few size before (r ∷ rs) h f =
    let w = run_within size r (not_after r.start before) (or_left _ (runs_fault size (some (r.start + r.size)) rs) f) in
    let k = runs_few size (some (r.start + r.size)) rs w.1 (or_right (run_fault size before r) _ f) in
    omega (arith, w.1, not_before r.start before w.2, k)
