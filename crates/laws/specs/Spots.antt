-- The root's rows that runs keep of a range: a range cut in two keeps what its parts keep.
use Rattle.std.specs.Prelude.{◌≡◌, false, leb}
use Rattle.std.proofs.Math.Path.{refl}
use Rattle.std.proofs.Common.{ap, ◌∙◌, leb-false}
use mathlib.Core.List.{List, [], ◌∷◌, ◌++◌, map, flat_map, append-nil, append_assoc, map-append}
use Rattle.std.proofs.Math.Option.{Option, some}
use Prim.Native.Nat.{ℕ, zero, suc, ◌+◌, ◌-◌, ◌≤◌, ◌<◌}
use native.Mathlib.Omega.{arith}
use Rattle.rules.specs.Table.{get, up_from}
use Rattle.rules.specs.Job.{Run, run_fault, runs_fault}
use Rattle.laws.specs.Table.{or_left, or_right}
use Rattle.laws.specs.Rows.{All}
use Rattle.laws.specs.KeptRuns.{cuts, cut_start, cut_end, by_less, cuts_more, cuts_less, run_within}

-- the rows that runs name
unfoldable pub numbers : List Run → List ℕ
numbers rs = flat_map (λ (r : Run). up_from r.start r.size) rs

-- the numbers from x up to y
abbrev pub up_to : ℕ → ℕ → List ℕ
up_to x y = up_from x (y - x)

-- the root's rows from lo to hi that runs from b keep
unfoldable pub spots : ℕ → ℕ → ℕ → List Run → List ℕ
spots b lo hi rs = flat_map (λ r. up_to (cut_start b lo r) (cut_end b hi r)) rs

pub up_append : (x m n : ℕ) → up_from x m ++ up_from (x + m) n ≡ up_from x (m + n)
unfolding up_from
up_append x zero n = let e : x + 0 ≡ x = omega arith in let d : 0 + n ≡ n = omega arith in rw (e, d)
up_append x (suc m) n =
    let e : x + suc m ≡ suc x + m = omega arith in
    let d : suc m + n ≡ suc (m + n) = omega arith in
    rw (e, d, up_append (suc x) m n)

up_split : (x m y : ℕ) → x ≤ m → m ≤ y → up_to x m ++ up_to m y ≡ up_to x y
up_split x m y p q =
    let e : x + (m - x) ≡ m = omega arith in
    let d : m - x + (y - m) ≡ y - x = omega arith in
    rw (d) at (rw e at (up_append x (m - x) (y - m)))

up_none : (x y : ℕ) → y ≤ x → up_to x y ≡ []
unfolding up_from
up_none x y h = let e : y - x ≡ 0 = omega arith in rw e

module _ {A : Type 0} (f g : ℕ → A) where
  -- functions that agree on the numbers
  pub up_same : (x n : ℕ) → ((p : ℕ) → x ≤ p → p < x + n → f p ≡ g p) → map f (up_from x n) ≡ map g (up_from x n)
  unfolding up_from
  up_same x zero h = refl
  up_same x (suc n) h = rw (h x (omega arith) (omega arith), up_same (suc x) n (λ p a b. h p (omega arith) (omega arith)))

  -- or on those of a range
  pub spots_same : (b lo hi : ℕ) (rs : List Run) → ((p : ℕ) → lo ≤ p → p < hi → f p ≡ g p) → map f (spots b lo hi rs) ≡ map g (spots b lo hi rs)
  unfolding spots flat_map
  spots_same b lo hi [] h = refl
  spots_same b lo hi (r ∷ rs) h = rw (
    map-append f (up_to (cut_start b lo r) (cut_end b hi r)) (spots b lo hi rs),
    map-append g (up_to (cut_start b lo r) (cut_end b hi r)) (spots b lo hi rs),
    up_same (cut_start b lo r) (cut_end b hi r - cut_start b lo r) (λ p k l. h p (omega arith) (omega arith)),
    spots_same b lo hi rs h,
  )

-- an entry of a table made number by number
pub get_numbers : {A : Type 0} (f : ℕ → A) (d : A) (i k n : ℕ) → n < k → get d (map f (up_from i k)) n ≡ f (i + n)
unfolding up_from
get_numbers f d i zero n h = absurd (omega arith)
get_numbers f d i (suc k) zero h = let e : i ≡ i + 0 = omega arith in ap f e
get_numbers f d i (suc k) (suc n) h = let e : suc i + n ≡ i + suc n = omega arith in get_numbers f d (suc i) k n (omega arith) ∙ ap f e

-- lists mapped one by one
pub map_flat : {A B C : Type 0} (f : B → C) (g : A → List B) (xs : List A) → flat_map (λ x. map f (g x)) xs ≡ map f (flat_map g xs)
unfolding flat_map
map_flat f g [] = refl
map_flat f g (x ∷ xs) = rw (map_flat f g xs, map-append f (g x) (flat_map g xs))

module _ {A : Type 0} (f : ℕ → A) where
  pub up_down : (lo x n : ℕ) → lo ≤ x → map f (up_from (x - lo) n) ≡ map (λ p. f (p - lo)) (up_from x n)
  unfolding up_from
  up_down lo x zero h = refl
  up_down lo x (suc n) h = let e : suc (x - lo) ≡ suc x - lo = omega arith in rw (e, up_down lo (suc x) n (omega arith))

  -- what is kept of a range, counted from its start
  pub cuts_spots : (b lo hi : ℕ) (rs : List Run) → map f (numbers (cuts b lo hi rs)) ≡ map (λ p. f (p - lo)) (spots b lo hi rs)
  unfolding flat_map numbers spots
  cuts_spots b lo hi [] = refl
  cuts_spots b lo hi (r ∷ rs) = rw (map-append (λ p. f (p - lo)) (up_to (cut_start b lo r) (cut_end b hi r)) (spots b lo hi rs)) (by_less (cut_start b lo r) (cut_end b hi r)
      (λ h. rw (
        cuts_more b lo hi r rs h,
        map-append f (up_from (cut_start b lo r - lo) (cut_end b hi r - cut_start b lo r)) (numbers (cuts b lo hi rs)),
        up_down lo (cut_start b lo r) (cut_end b hi r - cut_start b lo r) (omega arith),
        cuts_spots b lo hi rs,
      ))
      (λ h. rw (cuts_less b lo hi r rs h, up_none (cut_start b lo r) (cut_end b hi r) h) (cuts_spots b lo hi rs)))

-- runs behind a range keep nothing of it
spots_late : (b lo hi size e : ℕ) (rs : List Run) → runs_fault size (some e) rs ≡ false → hi ≤ b + e → spots b lo hi rs ≡ []
unfolding flat_map spots runs_fault
spots_late b lo hi size e [] h k = refl
spots_late b lo hi size e (r ∷ rs) h k =
    let w = run_within size r (leb r.start e) (or_left _ (runs_fault size (some (r.start + r.size)) rs) h) in
    let after : e < r.start = leb-false r.start e w.2 in
    rw (up_none (cut_start b lo r) (cut_end b hi r) (omega arith))
    (spots_late b lo hi size (r.start + r.size) rs (or_right (run_fault size (some e) r) _ h) (omega arith))

-- an empty range
pub spots_none : (b lo hi : ℕ) (rs : List Run) → hi ≤ lo → spots b lo hi rs ≡ []
unfolding flat_map spots
spots_none b lo hi [] h = refl
spots_none b lo hi (r ∷ rs) h = rw (up_none (cut_start b lo r) (cut_end b hi r) (omega arith)) (spots_none b lo hi rs h)

-- one run and a range cut in two
spot_split : (b lo mid hi : ℕ) (r : Run) → lo ≤ mid → mid ≤ hi
    → up_to (cut_start b lo r) (cut_end b mid r) ++ up_to (cut_start b mid r) (cut_end b hi r) ≡ up_to (cut_start b lo r) (cut_end b hi r)
spot_split b lo mid hi r p q = by_less mid (b + r.start + r.size)
    (λ h. by_less (b + r.start) mid
    (λ k.
    let x : cut_start b mid r ≡ mid = omega arith in
    let y : cut_end b mid r ≡ mid = omega arith in
    rw (x, y) (up_split (cut_start b lo r) mid (cut_end b hi r) (omega arith) (omega arith)))
    (λ k.
    let x : cut_start b mid r ≡ cut_start b lo r = omega arith in
    rw (x, up_none (cut_start b lo r) (cut_end b mid r) (omega arith))))
    (λ h.
    let y : cut_end b mid r ≡ cut_end b hi r = omega arith in
    rw (y, up_none (cut_start b mid r) (cut_end b hi r) (omega arith)) (append-nil _))

-- a range cut in two
pub spots_split : (b lo mid hi size : ℕ) (before : Option ℕ) (rs : List Run) → runs_fault size before rs ≡ false → lo ≤ mid → mid ≤ hi
    → spots b lo mid rs ++ spots b mid hi rs ≡ spots b lo hi rs
unfolding flat_map spots runs_fault
spots_split b lo mid hi size before [] h p q = refl
spots_split b lo mid hi size before (r ∷ rs) h p q =
    let later = or_right (run_fault size before r) (runs_fault size (some (r.start + r.size)) rs) h in
    rw (← spot_split b lo mid hi r p q, ← spots_split b lo mid hi size (some (r.start + r.size)) rs later p q)
    (by_less mid (b + (r.start + r.size))
    (λ k. rw (spots_late b lo mid size (r.start + r.size) rs later (omega arith)) (simp (append-nil, append_assoc)))
    (λ k. rw (up_none (cut_start b mid r) (cut_end b hi r) (omega arith)) (simp (append-nil, append_assoc))))

-- a range that holds every run
pub spots_all : (b hi size : ℕ) (rs : List Run) → All (λ r. (1 ≤ r.size) × (r.start + r.size ≤ size)) rs → b + size ≤ hi
    → spots b 0 hi rs ≡ flat_map (λ (r : Run). up_from (b + r.start) r.size) rs
unfolding flat_map spots
spots_all b hi size [] h k = refl
spots_all b hi size (r ∷ rs) h k =
    let x : cut_start b 0 r ≡ b + r.start = omega arith in
    let y : cut_end b hi r - (b + r.start) ≡ r.size = omega (arith, h.0) in
    rw (x, y, spots_all b hi size rs h.1 k)
