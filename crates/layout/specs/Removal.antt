-- A number leaves a stack: those that stay move down over it, one after the other.
use Rattle.std.specs.Prelude.{◌≡◌, refl, Bool, true, false, not, eqb, length, set, drop}
use Rattle.std.proofs.Math.Path.{sym, ap}
use Rattle.std.proofs.Common.{◌∙◌, length-set, get_or-drop, get_or-set_other}
use mathlib.Core.List.{List, [], ◌∷◌}
use Prim.Native.Nat.{ℕ, suc, ◌+◌, ◌≤◌, ◌<◌}
use native.Mathlib.Omega.{arith}
use Rattle.std.proofs.Math.ListN.{get_or}
use borrow.Author.Tests.{eq-eqb, ne_eqb}
use Rattle.rules.specs.Table.{filter}
use Rattle.rules.specs.Pipelines.{without}
use Rattle.laws.specs.Table.{by_eq}
use Rattle.std.specs.Int.{from_bool}
use Rattle.numbers.specs.Newest.{newest, newest_set, newest_more}
use Rattle.layout.specs.Numbers.{byte, stack}
use Rattle.layout.specs.Stack.{stack_in}

-- of n numbers i were looked at and j stay: they stand at the front, and those from i on where they stood
pub record Removing (k n i j : ℕ) (r₀ r : List ℕ) : Type 0 where
  pub few : j ≤ i
  pub most : i ≤ n
  pub size : length r ≡ length r₀
  pub front : newest (drop 1 r) j ≡ without k (newest (drop 1 r₀) i)
  pub rest : (t : ℕ) → i < t → get_or r t 0 ≡ get_or r₀ t 0

pub removing_start : (k n : ℕ) (r : List ℕ) → Removing k n 0 0 r r
unfolding newest filter
removing_start k n r = record { few = omega arith; most = omega arith; size = refl; front = refl; rest = λ t h. refl }

-- a store behind the first j of what follows the count
behind : (r : List ℕ) (j x : ℕ) → 0 < length r → drop 1 (set r (suc j) x) ≡ set (drop 1 r) j x
behind [] j x h = absurd (omega arith)
behind (c ∷ xs) j x h = refl

drop_size : (r : List ℕ) (j : ℕ) → suc j < length r → j < length (drop 1 r)
drop_size [] j h = absurd (omega arith)
drop_size (c ∷ xs) j h = omega arith

-- 1 for what holds, 0 otherwise
most_one : {b : ℕ} (t : Bool) → b ≡ from_bool t → b ≤ 1
most_one true e = omega arith
most_one false e = omega arith

module _ (k n i j : ℕ) (r₀ r : List ℕ) (x : ℕ) (low : i < n) (high : n < length r₀) (v : Removing k n i j r₀ r) (at : x ≡ get_or r (i + 1) 0) where
  -- the number that is looked at
  next_is : newest (drop 1 r₀) (suc i) ≡ x ∷ newest (drop 1 r₀) i
  unfolding newest
  next_is =
      let a : 1 + i ≡ i + 1 = omega arith in
      ap (λ (y : ℕ). y ∷ newest (drop 1 r₀) i) (get_or-drop 1 r₀ i 0 ∙ ap (λ (t : ℕ). get_or r₀ t 0) a ∙ sym (v.rest (i + 1) (omega arith)) ∙ sym at)

  room : suc j < length r
  room = omega (arith, v.few, v.size)

  front_of_lem : (b : ℕ) → b ≡ from_bool (not (eqb x k)) → newest (drop 1 (set r (suc j) x)) (j + b) ≡ without k (newest (drop 1 r₀) (suc i))
  unfolding filter
  front_of_lem b e = rw (behind r j x (omega (arith, room)), next_is) (by_eq x k
      (λ q. let z : j + b ≡ j = omega (arith, e, ap (λ (t : Bool). from_bool (not t)) (eq-eqb x k q)) in
      rw (z, eq-eqb k x (sym q), filter) (newest_set (drop 1 r) j j x (omega arith) ∙ v.front))
      (λ q. let z : j + b ≡ suc j = omega (arith, e, ap (λ (t : Bool). from_bool (not t)) (ne_eqb x k q)) in
      rw (z, ne_eqb k x (λ d. q (sym d)), filter) (newest_more (drop 1 r) j x (drop_size r j room) ∙ ap (λ (t : List ℕ). x ∷ t) v.front)))

  pub removing_next : (b : ℕ) → b ≡ from_bool (not (eqb x k)) → Removing k n (i + 1) (j + b) r₀ (set r (j + 1) x)
  removing_next b e =
      let l : b ≤ 1 = most_one (not (eqb x k)) e in
      let a : i + 1 ≡ suc i = omega arith in
      let c : j + 1 ≡ suc j = omega arith in
      rw (a, c) (record {
        few = omega (arith, v.few);
        most = omega arith;
        size = length-set r (suc j) x ∙ v.size;
        front = front_of_lem b e;
        rest = λ t h. get_or-set_other r (suc j) t x 0 (λ d. omega (arith, v.few)) ∙ v.rest t (omega arith);
      })

-- all were looked at: what stays is counted
pub removing_end : (k n i j : ℕ) (r₀ r : List ℕ) → n ≡ byte r₀ 0 → n < length r₀ → n ≤ i → Removing k n i j r₀ r → stack (set r 0 j) ≡ without k (stack r₀)
removing_end k n i j r₀ r e h l v =
    let a : i ≡ n = omega (arith, v.most) in
    counted r (omega (arith, v.size, v.few, v.most)) ∙ v.front ∙ ap (λ (t : ℕ). without k (newest (drop 1 r₀) t)) (a ∙ e)
    ∙ ap (without k) (sym (stack_in r₀ (rw e at h)))
  where
    counted : (l : List ℕ) → j < length l → stack (set l 0 j) ≡ newest (drop 1 l) j
    counted [] g = absurd (omega arith)
    counted (c ∷ xs) g = stack_in (j ∷ xs) g
