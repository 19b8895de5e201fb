-- A table of n records of equal size in a list of bytes: one law to read an entry, one to write it.
use Prim.Native.Nat.{ℕ, zero, suc, ◌+◌, ◌*◌, ◌-◌, ◌≤◌, ◌<◌}
use Rattle.std.proofs.Common.{suc-mul, zero-mul, add_comm, mul-le-mul_right, le_of_suc-le-suc, arith, sym, ap₂, ◌∙◌, length-drop, drop-drop, take_at, drop_at, take-suc, take-suc-set}
use Rattle.std.specs.Prelude.{◌≡◌, take}
use Rattle.std.proofs.Math.Path.{refl, ap}
use mathlib.Core.List.{List, [], ◌∷◌, ◌++◌}
use Rattle.std.proofs.Math.ListN.{length, drop}
use Rattle.rules.specs.Table.{get, put}
use Rattle.laws.specs.Table.{get_get_or, put_set}
use Rattle.layout.specs.Cut.{splice, take_splice, drop_splice}

-- record i ends where the next begins
pub next_record : (i size : ℕ) → suc i * size ≡ size + i * size
next_record i size = suc-mul i size ∙ add_comm (i * size) size

-- a record lies within its table
pub within : (i n size : ℕ) → i < n → i * size + size ≤ n * size
within i n size h = rw (suc-mul i size) at (mul-le-mul_right size h)

module _ {R : Type 0} (dec : List ℕ → R) (size : ℕ) where
  -- what the records say
  unfoldable pub table : ℕ → List ℕ → List R
  table zero s = []
  table (suc n) s = dec (take size s) ∷ table n (drop size s)

  pub length_table : (n : ℕ) (s : List ℕ) → length (table n s) ≡ n
  unfolding table
  length_table zero s = refl
  length_table (suc n) s = ap suc (length_table n (drop size s))

  -- what record i says
  pub table_get : (n : ℕ) (s : List ℕ) (i : ℕ) (d : R) → i < n → get d (table n s) i ≡ dec (take size (drop (i * size) s))
  unfolding table
  table_get zero s i d h = absurd (omega arith)
  table_get (suc n) s zero d h = rw (zero-mul size)
  table_get (suc n) s (suc i) d h =
      table_get n (drop size s) i d (le_of_suc-le-suc h)
      ∙ ap (λ (r : List ℕ). dec (take size r)) (drop-drop (i * size) size s ∙ ap (λ (j : ℕ). drop j s) (sym (next_record i size)))

  -- record i is replaced
  pub table_put : (n : ℕ) (s : List ℕ) (i : ℕ) (ys : List ℕ) (d : R) → i < n → n * size ≤ length s → length ys ≡ size
      → table n (splice s (i * size) size ys) ≡ put d (table n s) i (dec ys)
  unfolding table
  table_put zero s i ys d h l e = absurd (omega arith)
  table_put (suc n) s zero ys d h l e =
      rw (zero-mul size)
      (ap₂ {C = List R} ◌∷◌ (ap dec (take_at ys (drop size s) size e)) (ap (table n) (drop_at ys (drop size s) size e)))
  table_put (suc n) s (suc i) ys d h l e =
      let m : i * size + size ≤ n * size = within i n size (le_of_suc-le-suc h) in
      let w : n * size + size ≤ length s = rw (suc-mul n size) at l in
      rw (next_record i size)
      (ap₂ {C = List R} ◌∷◌
      (ap dec (take_splice size s (size + i * size) size ys (omega arith) (omega arith)))
      (ap (table n) (drop_splice size s (i * size) size ys (omega arith))
      ∙ table_put n (drop size s) i ys d (le_of_suc-le-suc h) (rw (length-drop size s) (omega arith)) e))

  -- one record more of a table that is read, and of one that is written, from the front
  pub table_more : (n : ℕ) (s : List ℕ) (i : ℕ) (d : R) → i < n → take (suc i) (table n s) ≡ take i (table n s) ++ dec (take size (drop (i * size) s)) ∷ []
  table_more n s i d h =
      take-suc (table n s) i d (rw (length_table n s) h)
      ∙ ap (λ (x : R). take i (table n s) ++ x ∷ []) (sym (get_get_or d (table n s) i) ∙ table_get n s i d h)

  pub table_wrote : (n : ℕ) (s : List ℕ) (i : ℕ) (ys : List ℕ) (d : R) → i < n → n * size ≤ length s → length ys ≡ size
      → take (suc i) (table n (splice s (i * size) (i * size + size - i * size) ys)) ≡ take i (table n s) ++ dec ys ∷ []
  table_wrote n s i ys d h l e =
      let k : i * size + size - i * size ≡ size = omega arith in
      let m : i < length (table n s) = rw (length_table n s) h in
      rw (k, table_put n s i ys d h l e, put_set d (table n s) i (dec ys) m) (take-suc-set (table n s) i (dec ys) m)
