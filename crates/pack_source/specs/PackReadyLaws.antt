-- Why the answers of a pack are right.
use Rattle.std.specs.Prelude.{◌≡◌, refl, Bool, ℕ, ◌+◌, ◌≤◌, ◌<◌, length, get_or, take}
use Rattle.std.proofs.Common.{sym, add-one, take-suc}
use Rattle.std.proofs.Math.Bool.{true, false}
use mathlib.Core.List.{List, [], ◌∷◌, ◌++◌, map, map-append}
use Rattle.std.proofs.Math.Option.{none, some}
use native.Mathlib.Omega.{arith}
use Rattle.std.proofs.Math.ListN.{get_elem?}
use Rattle.rules.specs.Table.{filter}
use Rattle.rules.specs.InletSet.{InletSet}
use Rattle.rules.specs.Operators.{inlet, go, stays, is_ended, ended_count, pack_ready}
use Rattle.queue.specs.declared.seen.Seen.{Seen}
use Rattle.queue.specs.Seen.{seen_of}
use Rattle.pack_source.specs.declared.pack.PackSource.{PackSource}
use Rattle.pack_source.specs.Pack.{seen_in}
use Rattle.pack_source.specs.PackLaws.{few}
use Rattle.numbers.specs.Bit.{bit, bit_most}

module _ {B : Type 0} (p : B → Bool) where
  pass_by : (y : B) (b : Bool) → p y ≡ b → (ys : List B) → length (filter p (y ∷ ys)) ≡ bit b + length (filter p ys)
  unfolding filter
  pass_by y true e ys = rw (e, filter) (omega arith)
  pass_by y false e ys = rw (e, filter) (omega arith)

  pass : (y : B) (ys : List B) → length (filter p (y ∷ ys)) ≡ bit (p y) + length (filter p ys)
  pass y ys = pass_by y (p y) refl ys

  -- one more at the end
  pass_last : (x : B) (xs : List B) → length (filter p (xs ++ x ∷ [])) ≡ length (filter p xs) + bit (p x)
  pass_last x [] = omega (arith, pass x [])
  pass_last x (y ∷ ys) = omega (arith, pass y (ys ++ x ∷ []), pass y ys, pass_last x ys)

  pub pass_most : (xs : List B) → length (filter p xs) ≤ length xs
  unfolding filter
  pass_most [] = omega arith
  pass_most (y ∷ ys) = omega (arith, pass y ys, bit_most (p y), pass_most ys)

module _ {A B : Type 0} (f : A → B) (p : B → Bool) where
  pub pass_next : (l : List A) (i : ℕ) (d : A) → i < length l
      → length (filter p (map f (take (i + 1) l))) ≡ length (filter p (map f (take i l))) + bit (p (f (get_or l i d)))
  pass_next l i d h =
      rw (add-one i, take-suc l i d h, map-append f (take i l) (get_or l i d ∷ [])) (pass_last p (f (get_or l i d)) (map f (take i l)))

-- the newest that waits, or none
pub ready_on : (w : InletSet) (i : ℕ) → some i ≡ get_elem? w 0 → stays (inlet i) ≡ pack_ready w
unfolding pack_ready
ready_on [] i e = let z : ◌≡◌ {A = ℕ} 0 1 = cc in absurd (omega arith)
ready_on (x ∷ xs) i e = cc

pub ready_none : (w : InletSet) → none ≡ get_elem? w 0 → go ≡ pack_ready w
unfolding pack_ready
ready_none [] e = refl
ready_none (x ∷ xs) e = let z : ◌≡◌ {A = ℕ} 0 1 = cc in absurd (omega arith)

-- one entry more
pub count_next : (l : List Seen) (i : ℕ) (d : Seen) (n r : ℕ) (b : Bool) → n ≡ ended_count (map seen_of (take i l)) → r ≡ bit b
    → b ≡ is_ended (seen_of (get_or l i d)) → i < length l → n + r ≡ ended_count (map seen_of (take (i + 1) l))
count_next l i d n r b e x y h = rw (e, x, y) (sym (pass_next seen_of is_ended l i d h))

module _ (p : PackSource) (n : ℕ) (c : n ≡ length (seen_in p)) where
  pub ended_few : (r : ℕ) → length p.shown ≡ 4 → r ≡ ended_count (seen_in p) → r ≤ 4
  ended_few r long e = omega (arith, few p n c long, pass_most is_ended (seen_in p))
