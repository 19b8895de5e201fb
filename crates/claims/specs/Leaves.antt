-- The pairs of one leaf after another: those of leaf i are the 16 from 16 * i on.
use Rattle.std.specs.Prelude.{◌≡◌, Bool, false, ◌&&◌, not, List, ltb, length}
use Rattle.std.proofs.Math.Path.{refl, sym, ap}
use Rattle.std.proofs.Common.{◌∙◌}
use Rattle.std.proofs.Math.Bool.{true}
use Prim.Native.Nat.{ℕ, zero, suc, ◌+◌, ◌-◌, ◌*◌, ◌/◌, ◌%◌, ◌≤◌, ◌<◌}
use native.Mathlib.Omega.{arith}
use Rattle.std.proofs.Math.Dec.{eqb}
use borrow.Author.Tests.{lt-ltb, eq-eqb, ne_eqb, eqb-true}
use Rattle.std.proofs.Math.Option.{some}
use Rattle.rules.specs.Table.{get, find, sum_of, up_from}
use Rattle.rules.specs.Job.{Job}
use Rattle.rules.specs.Plan.{split_of, reach_start, reach_end, names}
use Rattle.rules.specs.Machine.{Machine}
use Rattle.rules.specs.Shares.{claimants, first_for}
use Rattle.laws.specs.Table.{by_bool}
use Rattle.claims.specs.Lists.{find_yes, find_no}
use Rattle.claims.specs.Pairs.{is_claimant, claim_mark, mark_tested, no_leaf, no_splits, takes, FirstIn, port_for}

-- an unfinished split overlaps a reach from a to e
abbrev pub open_in : Job → List Bool → ℕ → ℕ → ℕ → Bool
open_in j f a e t = (ltb a e && ltb (split_of j t).start e && ltb a (split_of j t).end) && not (get false f t)

-- a pair of leaf i, where that is of the segment
pub claimant_of : (j : Job) (f : List Bool) (g i y a e : ℕ) (b : Bool) → y / 16 ≡ i → names j g i ≡ true → y % 16 < length j.splits
    → a ≡ reach_start j i → e ≡ reach_end j i → b ≡ open_in j f a e (y % 16) → b ≡ is_claimant j f g y
claimant_of j f g i y a e b d n h p q r = rw (d, n, lt-ltb (y % 16) (length j.splits) h) (r ∙ rw (p, q))

-- How many

sum_append : (f : ℕ → ℕ) (a k n : ℕ) → sum_of f (up_from a (k + n)) ≡ sum_of f (up_from a k) + sum_of f (up_from (a + k) n)
unfolding sum_of up_from
sum_append f a zero n = let x : a + 0 ≡ a = omega arith in let y : 0 + n ≡ n = omega arith in rw (x, y) (omega arith)
sum_append f a (suc k) n =
    let x : a + suc k ≡ suc a + k = omega arith in
    let y : suc k + n ≡ suc (k + n) = omega arith in
    rw (x, y, sum_append f (suc a) k n) (omega arith)

-- the pairs of leaf i
pub count_start : (f : ℕ → ℕ) (i : ℕ) → sum_of f (up_from (16 * i) 16) ≡ 0 + sum_of f (up_from (16 * i) (16 * i + 16 - 16 * i))
count_start f i = let e : 16 * i + 16 - 16 * i ≡ 16 = omega arith in rw e (omega arith)

-- those of leaf i, then the others
pub leaf_next : (f : ℕ → ℕ) (n i c r total : ℕ) → i < n → total ≡ c + sum_of f (up_from (16 * i) (16 * n - 16 * i)) → r ≡ sum_of f (up_from (16 * i) 16)
    → total ≡ c + r + sum_of f (up_from (16 * (i + 1)) (16 * n - 16 * (i + 1)))
leaf_next f n i c r total h e q =
    let k : 16 * n - 16 * i ≡ 16 + (16 * n - 16 * (i + 1)) = omega arith in
    let b : 16 * i + 16 ≡ 16 * (i + 1) = omega arith in
    let w : sum_of f (up_from (16 * i) (16 * n - 16 * i)) ≡ sum_of f (up_from (16 * i) 16) + sum_of f (up_from (16 * (i + 1)) (16 * n - 16 * (i + 1)))
    = rw (k, ← b) (sum_append f (16 * i) 16 (16 * n - (16 * i + 16))) in
    omega (arith, e, q, w)

module _ (m : Machine) (l i : ℕ) where
  -- a leaf of another segment, or no leaf
  pub count_none : names m.job l i ≡ false → 0 ≡ sum_of (claim_mark m l) (up_from (16 * i) 16)
  count_none e = sym (ap length (no_leaf m.job m.finished l i e)) ∙ mark_tested (is_claimant m.job m.finished l) (up_from (16 * i) 16)

  -- the pairs past the last split
  pub count_past : (y c total : ℕ) → 16 * i + length m.job.splits ≤ y → y ≤ 16 * i + 16 →
      total ≡ c + sum_of (claim_mark m l) (up_from y (16 * i + 16 - y)) → c ≡ total
  count_past y c total h k e =
      let d : 16 * i + (y - 16 * i) ≡ y = omega arith in
      let z : sum_of (claim_mark m l) (up_from y (16 * i + 16 - y)) ≡ 0
      = sym (mark_tested (is_claimant m.job m.finished l) (up_from y (16 * i + 16 - y)))
      ∙ ap length (rw d at (no_splits m.job m.finished l i (y - 16 * i) (16 * i + 16 - y) (omega arith) (omega arith))) in
      omega (arith, e, z)

-- The first for a split

find_skip : (p : ℕ → Bool) (a k n : ℕ) → ((y : ℕ) → a ≤ y → y < a + k → p y ≡ false) → find p (up_from a (k + n)) ≡ find p (up_from (a + k) n)
unfolding up_from
find_skip p a zero n h = let x : a + 0 ≡ a = omega arith in let y : 0 + n ≡ n = omega arith in rw (x, y)
find_skip p a (suc k) n h =
    let x : a + suc k ≡ suc a + k = omega arith in
    let y : suc k + n ≡ suc (k + n) = omega arith in
    rw (x, y, find_no p a (up_from (suc a) (k + n)) (h a (omega arith) (omega arith))) (find_skip p (suc a) k n (λ z u v. h z (omega arith) (omega arith)))

and_not : (a b : Bool) → b ≡ false → (a && b) ≡ false
and_not true b e = e
and_not false b e = refl

module _ (m : Machine) (l t : ℕ) where
  -- a pair of another split
  other_split : (y : ℕ) → (y % 16 ≡ t → ⊥) → takes m l t y ≡ false
  other_split y h = and_not (is_claimant m.job m.finished l y) (eqb (y % 16) t) (ne_eqb (y % 16) t h)

  module _ (n i : ℕ) (k : t < 16) (h : i < n) (f : FirstIn m l t (16 * n) (16 * i)) where
    -- the pair of leaf i is a claimant
    pub first_here : is_claimant m.job m.finished l (16 * i + t) ≡ true → some (72 + (16 * i + t)) ≡ first_for t (claimants m l)
    unfolding up_from
    first_here e =
        let s : 16 * n - 16 * i ≡ t + suc (16 * n - 16 * i - t - 1) = omega arith in
        let d : (16 * i + t) % 16 ≡ t = omega arith in
        let y : takes m l t (16 * i + t) ≡ true = rw (e, d) (same t) in
        sym (f ∙ rw s (ap port_for (find_skip (takes m l t) (16 * i) t (suc (16 * n - 16 * i - t - 1)) (λ z a b. other_split z (λ q. omega arith))
        ∙ find_yes (takes m l t) (16 * i + t) (up_from (suc (16 * i + t)) (16 * n - 16 * i - t - 1)) y)))
      where
        same : (x : ℕ) → eqb x x ≡ true
        same x = eq-eqb x x refl

    -- it is none
    pub first_next : is_claimant m.job m.finished l (16 * i + t) ≡ false → FirstIn m l t (16 * n) (16 * (i + 1))
    first_next e =
        let s : 16 * n - 16 * i ≡ 16 + (16 * n - 16 * (i + 1)) = omega arith in
        let b : 16 * i + 16 ≡ 16 * (i + 1) = omega arith in
        f ∙ rw s (ap port_for (find_skip (takes m l t) (16 * i) 16 (16 * n - 16 * (i + 1)) (λ z u v. by_bool (eqb (z % 16) t)
        (λ q. let r : z ≡ 16 * i + t = omega (arith, eqb-true (z % 16) t q) in rw (r, e) refl)
        (λ q. and_not (is_claimant m.job m.finished l z) (eqb (z % 16) t) q)) ∙ ap (λ (x : ℕ). find (takes m l t) (up_from x (16 * n - 16 * (i + 1)))) b))
