-- A shared source that nobody reads: no port of its segment is there. Ports are looked at leaf by leaf.
use Rattle.std.specs.Prelude.{◌≡◌, Bool, true, false, ◌&&◌, ℕ, zero, suc, ◌+◌, ◌-◌, ◌*◌, ◌≤◌, ◌<◌, eqb}
use Rattle.std.proofs.Math.Path.{refl}
use Rattle.std.proofs.Common.{sym, ap, ◌∙◌, arith}
use Rattle.rules.specs.Table.{filter, is_empty, up_from}
use Rattle.rules.specs.Plan.{node_of, is_leaf}
use Rattle.rules.specs.Machine.{Machine, node_at_place}
use Rattle.rules.specs.Scan.{is_unread}
use Rattle.laws.specs.Table.{by_bool}
use Rattle.laws.specs.JobOk.{JobOk}
use Rattle.outlets.specs.Outlet.{is_outlet, outlet_other, outlets_are}

-- none of the n ports from x on is an outlet
abbrev pub none_of : Machine → ℕ → ℕ → ℕ → Bool
none_of m p x n = is_empty (filter (is_outlet m p) (up_from x n))

-- none of leaf l
abbrev pub none_at : Machine → ℕ → ℕ → Bool
none_at m p l = none_of m p (72 + 16 * l) 16

pub unread_is : (m : Machine) (p : ℕ) → 72 ≤ p → JobOk m.job → is_unread m p ≡ none_of m p 72 384
unread_is m p h ok = ap is_empty (outlets_are m p h ok.splits_high ok.nodes_high)

module _ (m : Machine) (p : ℕ) where
  first_not : (x n : ℕ) → is_outlet m p x ≡ false → none_of m p x (suc n) ≡ none_of m p (suc x) n
  unfolding filter up_from
  first_not x n e = rw (e, filter)

  first_is : (x n : ℕ) → is_outlet m p x ≡ true → none_of m p x (suc n) ≡ false
  unfolding filter up_from is_empty
  first_is x n e = rw (e, filter)

  none_of_lem : (x : ℕ) → none_of m p x 0 ≡ true
  unfolding filter up_from is_empty
  none_of_lem x = refl

  -- The ports of a leaf

  pub port_not : (x end : ℕ) → x < end → is_outlet m p x ≡ false → none_of m p x (end - x) ≡ none_of m p (x + 1) (end - (x + 1))
  port_not x end h e =
      let a : end - x ≡ suc (end - (x + 1)) = omega arith in
      let s : suc x ≡ x + 1 = omega arith in
      rw a (first_not x (end - (x + 1)) e ∙ rw s)

  pub port_is : (x end : ℕ) → x < end → is_outlet m p x ≡ true → none_of m p x (end - x) ≡ false
  port_is x end h e = let a : end - x ≡ suc (end - (x + 1)) = omega arith in rw a (first_is x (end - (x + 1)) e)

  pub port_end : (x end : ℕ) → end ≤ x → none_of m p x (end - x) ≡ true
  port_end x end h = let a : end - x ≡ 0 = omega arith in rw a (none_of_lem x)

  -- where none is an outlet
  none_in : (x n : ℕ) → ((y : ℕ) → x ≤ y → y < x + n → is_outlet m p y ≡ false) → none_of m p x n ≡ true
  none_in x zero h = none_of_lem x
  none_in x (suc n) h = first_not x n (h x (omega arith) (omega arith)) ∙ none_in (suc x) n (λ y a b. h y (omega arith) (omega arith))

  -- a leaf of another segment
  pub leaf_other : (l : ℕ) → (is_leaf m.job l && eqb (node_of m.job l).segment (node_of m.job (node_at_place p)).segment) ≡ false
      → none_at m p l ≡ true
  leaf_other l e = none_in (72 + 16 * l) 16 (λ y a b. outlet_other m p l y e a (omega arith))

  -- Leaf by leaf

  -- some ports, then the others
  none_then : (x a n : ℕ) → none_of m p x (a + n) ≡ (none_of m p x a && none_of m p (x + a) n)
  none_then x zero n = let z : 0 + n ≡ n = omega arith in let y : x + 0 ≡ x = omega arith in rw (z, y, none_of_lem x)
  none_then x (suc a) n =
      let z : suc a + n ≡ suc (a + n) = omega arith in
      let y : suc x + a ≡ x + suc a = omega arith in
      rw z (by_bool (is_outlet m p x)
      (λ e. rw (first_is x (a + n) e, first_is x a e))
      (λ e. rw (first_not x (a + n) e, first_not x a e, ← y) (none_then (suc x) a n)))

  leaf_then : (l : ℕ) → l < 24 → none_of m p (72 + 16 * l) (384 - 16 * l) ≡ (none_at m p l && none_of m p (72 + 16 * (l + 1)) (384 - 16 * (l + 1)))
  leaf_then l h =
      let a : 384 - 16 * l ≡ 16 + (384 - 16 * (l + 1)) = omega arith in
      let b : 72 + 16 * l + 16 ≡ 72 + 16 * (l + 1) = omega arith in
      rw (a, ← b) (none_then (72 + 16 * l) 16 (384 - 16 * (l + 1)))

  pub leaf_not : (l : ℕ) (b : Bool) → l < 24 → b ≡ none_at m p l → b ≡ true
      → none_of m p (72 + 16 * l) (384 - 16 * l) ≡ none_of m p (72 + 16 * (l + 1)) (384 - 16 * (l + 1))
  leaf_not l b h e t = leaf_then l h ∙ ap (λ (c : Bool). c && none_of m p (72 + 16 * (l + 1)) (384 - 16 * (l + 1))) (sym e ∙ t)

  pub leaf_is : (l : ℕ) (b : Bool) → l < 24 → b ≡ none_at m p l → b ≡ false → none_of m p (72 + 16 * l) (384 - 16 * l) ≡ false
  leaf_is l b h e t = leaf_then l h ∙ ap (λ (c : Bool). c && none_of m p (72 + 16 * (l + 1)) (384 - 16 * (l + 1))) (sym e ∙ t)

  pub leaf_end : (l : ℕ) → 24 ≤ l → none_of m p (72 + 16 * l) (384 - 16 * l) ≡ true
  leaf_end l h = let a : 384 - 16 * l ≡ 0 = omega arith in rw a (none_of_lem (72 + 16 * l))
