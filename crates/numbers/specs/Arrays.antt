-- Laws of arrays of which the first n count: loops that copy, map and test their elements, and an element in use.
use Rattle.std.specs.Prelude.{◌≡◌, refl, Bool, true, false, ◌&&◌, List, [], ◌∷◌, ◌++◌, map, ℕ, zero, suc, ◌≤◌, ◌<◌, min, length, get_or, take, drop, set, replicate}
use Rattle.std.proofs.Common.{sym, ap, ◌∙◌, not-suc-le-zero, zero-add, arith, length-take, get_or-take, take_at, length-take-le}
use Rattle.std.proofs.Math.Nat.{zero-min, min-zero, suc-min-suc}
use Rattle.std.proofs.lemmas.List.{length-map}
use Rattle.std.proofs.Math.ListN.{get_or-map}
use Rattle.std.proofs.Math.Seq.{paste-suc, slice, slice-cons}
use Rattle.rules.specs.Table.{all, put}

module _ {A : Type 0} where
  -- the first n of s, then what d has from n on
  abbrev pub over : ℕ → List A → List A → List A
  over n s d = take n s ++ drop n d

  pub over_set : (n : ℕ) (s d : List A) (z : A) → n < length s → n < length d → set (over n s d) n (get_or s n z) ≡ over (suc n) s d
  over_set n s d z hs hd = simp zero-add at (paste-suc d 0 s n z (simp zero-add hd) hs)

  pub over_take : (n : ℕ) (s d : List A) → n ≤ length s → take n (over n s d) ≡ take n s
  over_take n s d h = take_at (take n s) (drop n d) n (length-take-le n s h)

  pub take_min : (n : ℕ) (l : List A) → take (min n (length l)) l ≡ take n l
  take_min zero l = rw (zero-min (length l))
  take_min (suc n) [] = rw (min-zero (suc n))
  take_min (suc n) (x ∷ xs) = rw (suc-min-suc n (length xs)) (ap (λ (r : List A). x ∷ r) (take_min n xs))

  -- to take more than there are is to take all
  pub take_clamped : (l : List A) (n c k : ℕ) → length l ≡ k → c ≡ min n k → take n l ≡ take c l
  take_clamped l n c k long is = sym (take_min n l) ∙ rw (long, is)

  -- all that is left to test from i on
  pub all_next : (p : A → Bool) (i n : ℕ) (l : List A) (d : A) → i < n → n ≤ length l
      → all p (slice i n l) ≡ (p (get_or l i d) && all p (slice (suc i) n l))
  unfolding all
  all_next p i n l d h k = rw (slice-cons i n l d h k)

  pub all_head : (p : A → Bool) (i n : ℕ) (l : List A) (d : A) → i < n → n ≤ length l → p (get_or l i d) ≡ true
      → all p (slice i n l) ≡ all p (slice (suc i) n l)
  all_head p i n l d h k e = rw (all_next p i n l d h k, e)

  pub all_not : (p : A → Bool) (i n : ℕ) (l : List A) (d : A) → i < n → n ≤ length l → p (get_or l i d) ≡ false
      → all p (slice i n l) ≡ false
  all_not p i n l d h k e = rw (all_next p i n l d h k, e)

module _ {A B : Type 0} where
  -- a loop that replaces each element by f of it
  pub map_set : (f : A → B) (n : ℕ) (l : List A) (m : List B) (z : A) → n < length l → n < length m
      → set (over n (map f l) m) n (f (get_or l n z)) ≡ over (suc n) (map f l) m
  map_set f n l m z hl hm = rw (← get_or-map f l n z) (over_set n (map f l) m (f z) (rw (length-map l f) hl) hm)

-- an array of which the first n count, each turned by f
module _ {A B : Type 0} (f : A → B) where
  pub count_is : (n : ℕ) (l : List A) (k : ℕ) → length l ≡ k → length (map f (take n l)) ≡ min n k
  count_is n l k e = length-map (take n l) f ∙ length-take n l ∙ rw e

  pub in_use : (n : ℕ) (l : List A) (d : A) (k : ℕ) → k < n → get_or (map f (take n l)) k (f d) ≡ f (get_or l k d)
  in_use n l d k h = get_or-map f (take n l) k d ∙ ap f (get_or-take n l k d h)

  -- another entry
  pub put_in : (d : B) (n : ℕ) (l : List A) (k : ℕ) (a : A) → k < n → k < length l
      → map f (take n (set l k a)) ≡ put d (map f (take n l)) k (f a)
  put_in d zero l k a h m = absurd (not-suc-le-zero h)
  put_in d (suc n) [] k a h m = absurd (not-suc-le-zero m)
  put_in d (suc n) (x ∷ xs) zero a h m = refl
  put_in d (suc n) (x ∷ xs) (suc k) a h m = ap {B = List B} (λ r. f x ∷ r) (put_in d n xs k a (omega arith) (omega arith))

  -- equal entries
  pub same_in : (n m : ℕ) (a : A) → n ≤ m → map f (take n (replicate m a)) ≡ replicate n (f a)
  same_in zero m a h = refl
  same_in (suc n) zero a h = absurd (not-suc-le-zero h)
  same_in (suc n) (suc m) a h = ap {B = List B} (λ r. f a ∷ r) (same_in n m a (omega arith))
