-- A ring: c entries of n places from a head on, the oldest first. `at` says what stands at a place. What a push behind the last entry and a pop of
-- the first do to it.
use Prim.Native.Nat.{ℕ, zero, suc, ◌+◌, ◌-◌, ◌%◌, ◌≤◌, ◌<◌}
use Rattle.std.proofs.Math.Nat.{suc-mod, mod-mod, mod-add-mod, mod-eq-sub-mod}
use Rattle.std.proofs.Common.{mod-lt, mod-eq_of_lt, ◌∙◌, ltb-true, ltb-false}
use native.Mathlib.Omega.{arith}
use Rattle.std.specs.Prelude.{◌≡◌, ◌≢◌, ltb, length, drop}
use Rattle.std.proofs.Math.Path.{refl, sym, ap, ap₂}
use mathlib.Core.List.{List, [], ◌∷◌, ◌++◌}
use Rattle.rules.specs.Table.{get}
use Rattle.laws.specs.Table.{by_bool}

-- d places further on, but not all the way round, is another place
further : (x d n : ℕ) → x < n → 0 < d → d < n → (x + d) % n ≢ x
further x d n h p q e =
    by_bool (ltb (x + d) n)
    (λ t. let l : x + d < n = ltb-true (x + d) n t in omega (arith, mod-eq_of_lt l))
    (λ t.
    let l : n ≤ x + d = ltb-false (x + d) n t in
    let m : x + d - n < n = omega arith in
    omega (arith, mod-eq-sub-mod l, mod-eq_of_lt m))

-- different entries of a ring have different places
apart_in_ring : (h i c n : ℕ) → i < c → c < n → (h + i) % n ≢ (h + c) % n
apart_in_ring h i c n l m e =
    let z : 0 < n = omega arith in
    let s : h + i + (c - i) ≡ h + c = omega arith in
    further ((h + i) % n) (c - i) n (mod-lt (h + i) z) (omega arith) (omega arith) (mod-add-mod (h + i) n (c - i) ∙ ap (λ (k : ℕ). k % n) s ∙ sym e)

module _ {A : Type 0} where
  unfoldable pub ring : (ℕ → A) → ℕ → ℕ → ℕ → List A
  ring at n h zero = []
  ring at n h (suc c) = at (h % n) ∷ ring at n (suc h) c

  pub length_ring : (at : ℕ → A) (n h c : ℕ) → length (ring at n h c) ≡ c
  unfolding ring
  length_ring at n h zero = refl
  length_ring at n h (suc c) = ap suc (length_ring at n (suc h) c)

  -- entry i
  pub get_ring : (at : ℕ → A) (n h c i : ℕ) (d : A) → i < c → get d (ring at n h c) i ≡ at ((h + i) % n)
  unfolding ring
  get_ring at n h zero i d l = absurd (omega arith)
  get_ring at n h (suc c) zero d l = let e : h ≡ h + 0 = omega arith in ap (λ (k : ℕ). at (k % n)) e
  get_ring at n h (suc c) (suc i) d l =
      let e : suc h + i ≡ h + suc i = omega arith in
      get_ring at n (suc h) c i d (omega arith) ∙ ap (λ (k : ℕ). at (k % n)) e

  -- rings whose places say the same
  pub ring_same : (at bt : ℕ → A) (n h c : ℕ) → ((i : ℕ) → i < c → at ((h + i) % n) ≡ bt ((h + i) % n)) → ring at n h c ≡ ring bt n h c
  unfolding ring
  ring_same at bt n h zero f = refl
  ring_same at bt n h (suc c) f =
      let e : h + 0 ≡ h = omega arith in
      ap₂ ◌∷◌
      (rw e at (f 0 (omega arith)))
      (ring_same at bt n (suc h) c (λ i l. let g : suc h + i ≡ h + suc i = omega arith in rw g (f (suc i) (omega arith))))

  -- one entry more, at the end
  ring_more : (at : ℕ → A) (n h c : ℕ) → ring at n h (suc c) ≡ ring at n h c ++ at ((h + c) % n) ∷ []
  unfolding ring
  ring_more at n h zero = let e : h ≡ h + 0 = omega arith in ap (λ (k : ℕ). at (k % n) ∷ []) e
  ring_more at n h (suc c) =
      let e : suc h + c ≡ h + suc c = omega arith in
      ap (λ (r : List A). at (h % n) ∷ r) (ring_more at n (suc h) c ∙ ap (λ (k : ℕ). ring at n (suc h) c ++ at (k % n) ∷ []) e)

  -- heads at the same place
  ring_heads : (at : ℕ → A) (n h k c : ℕ) → h % n ≡ k % n → ring at n h c ≡ ring at n k c
  unfolding ring
  ring_heads at n h k zero e = refl
  ring_heads at n h k (suc c) e =
      ap₂ ◌∷◌ (ap at e) (ring_heads at n (suc h) (suc k) c (suc-mod h n ∙ ap (λ (x : ℕ). suc x % n) e ∙ sym (suc-mod k n)))

  -- without the first
  pub ring_pop : (at : ℕ → A) (n h c : ℕ) → ring at n (suc h % n) c ≡ drop 1 (ring at n h (suc c))
  unfolding ring
  ring_pop at n h c = ring_heads at n (suc h % n) (suc h) c (mod-mod (suc h) n)

  -- one more, at the place behind the last
  pub ring_push : (at bt : ℕ → A) (n h c : ℕ) (v : A) → c < n → ((k : ℕ) → k ≢ (h + c) % n → bt k ≡ at k) → bt ((h + c) % n) ≡ v
      → ring bt n h (suc c) ≡ ring at n h c ++ v ∷ []
  ring_push at bt n h c v l o e =
      ring_more bt n h c
      ∙ ap₂ ◌++◌ (ring_same bt at n h c (λ i m. o ((h + i) % n) (apart_in_ring h i c n m l))) (ap (λ (x : A). x ∷ []) e)

  -- another for the first
  pub ring_front : (at bt : ℕ → A) (n h c : ℕ) (v : A) → 0 < c → c ≤ n → ((k : ℕ) → k ≢ (h + 0) % n → bt k ≡ at k) → bt ((h + 0) % n) ≡ v
      → ring bt n h c ≡ v ∷ drop 1 (ring at n h c)
  unfolding ring
  ring_front at bt n h zero v k l o e = absurd (omega arith)
  ring_front at bt n h (suc c) v k l o e =
      let z : h + 0 ≡ h = omega arith in
      ap₂ ◌∷◌ (rw z at e)
      (ring_same bt at n (suc h) c (λ i t.
      let g : suc h + i ≡ h + suc i = omega arith in
      rw g (o ((h + suc i) % n) (λ q. apart_in_ring h 0 (suc i) n (omega arith) (omega arith) (sym q)))))
