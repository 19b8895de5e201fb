-- Tables whose entries depend on their number, and tables one behind the other.
use Prim.Native.Nat.{ℕ, zero, suc, ◌+◌, ◌<◌, ◌≤◌}
use native.Mathlib.Omega.{arith}
use Rattle.std.specs.Prelude.{◌≡◌, ◌≢◌, length}
use Rattle.std.proofs.Math.Path.{refl, ap, ap₂}
use Rattle.std.proofs.Common.{◌∙◌}
use mathlib.Core.List.{List, [], ◌∷◌, ◌++◌}
use Rattle.rules.specs.Table.{get, put}
use Rattle.tables.specs.View.{indexed}

module _ {A : Type 0} where
  pub get_behind : (d : A) (xs ys : List A) (i : ℕ) → get d (xs ++ ys) (length xs + i) ≡ get d ys i
  get_behind d [] ys i = let e : 0 + i ≡ i = omega arith in ap (get d ys) e
  get_behind d (x ∷ xs) ys i = let e : suc (length xs) + i ≡ suc (length xs + i) = omega arith in rw e (get_behind d xs ys i)

  pub put_front : (d : A) (xs ys : List A) (i : ℕ) (v : A) → i < length xs → put d (xs ++ ys) i v ≡ put d xs i v ++ ys
  put_front d [] ys i v h = absurd (omega arith)
  put_front d (x ∷ xs) ys zero v h = refl
  put_front d (x ∷ xs) ys (suc i) v h = ap (λ (r : List A). x ∷ r) (put_front d xs ys i v (omega arith))

  pub put_behind : (d : A) (xs ys : List A) (i : ℕ) (v : A) → put d (xs ++ ys) (length xs + i) v ≡ xs ++ put d ys i v
  put_behind d [] ys i v = let e : 0 + i ≡ i = omega arith in ap (λ (k : ℕ). put d ys k v) e
  put_behind d (x ∷ xs) ys i v =
      let e : suc (length xs) + i ≡ suc (length xs + i) = omega arith in
      rw e (ap (λ (r : List A). x ∷ r) (put_behind d xs ys i v))

module _ {A B : Type 0} where
  pub length_indexed : (f : ℕ → A → B) (k : ℕ) (xs : List A) → length (indexed f k xs) ≡ length xs
  unfolding indexed
  length_indexed f k [] = refl
  length_indexed f k (x ∷ xs) = ap suc (length_indexed f (suc k) xs)

  pub indexed_get : (f : ℕ → A → B) (k : ℕ) (xs : List A) (i : ℕ) (d : B) (e : A) → i < length xs → get d (indexed f k xs) i ≡ f (k + i) (get e xs i)
  unfolding indexed
  indexed_get f k [] i d e h = absurd (omega arith)
  indexed_get f k (x ∷ xs) zero d e h = let z : k ≡ k + 0 = omega arith in ap (λ (n : ℕ). f n x) z
  indexed_get f k (x ∷ xs) (suc i) d e h =
      let z : suc k + i ≡ k + suc i = omega arith in
      indexed_get f (suc k) xs i d e (omega arith) ∙ ap (λ (n : ℕ). f n (get e xs i)) z

  -- alike at every number
  pub indexed_same : (f g : ℕ → A → B) (k : ℕ) (xs : List A) → ((n : ℕ) (x : A) → k ≤ n → g n x ≡ f n x) → indexed g k xs ≡ indexed f k xs
  unfolding indexed
  indexed_same f g k [] h = refl
  indexed_same f g k (x ∷ xs) h = ap₂ ◌∷◌ (h k x (omega arith)) (indexed_same f g (suc k) xs (λ n y l. h n y (omega arith)))

  -- another entry, and another meaning, at one number
  pub indexed_put : (f g : ℕ → A → B) (k : ℕ) (xs : List A) (i : ℕ) (v : A) (d : B) (e : A) → i < length xs → ((n : ℕ) (x : A) → n ≢ k + i → g n x ≡ f n x)
      → indexed g k (put e xs i v) ≡ put d (indexed f k xs) i (g (k + i) v)
  unfolding indexed
  indexed_put f g k [] i v d e h s = absurd (omega arith)
  indexed_put f g k (x ∷ xs) zero v d e h s =
      let z : k ≡ k + 0 = omega arith in
      ap₂ ◌∷◌ (ap (λ (n : ℕ). g n v) z) (indexed_same f g (suc k) xs (λ n y l. s n y (λ q. omega arith)))
  indexed_put f g k (x ∷ xs) (suc i) v d e h s =
      let z : suc k + i ≡ k + suc i = omega arith in
      ap₂ ◌∷◌
      (s k x (λ q. omega arith))
      (indexed_put f g (suc k) xs i v d e (omega arith) (λ n y l. s n y (λ q. l (omega arith))) ∙ ap (λ (n : ℕ). put d (indexed f (suc k) xs) i (g n v)) z)
