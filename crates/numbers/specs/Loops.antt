-- A test of every entry of a table, with its number, one after another; a sum over the entries.
use Rattle.std.specs.Prelude.{ℕ, zero, suc, ◌+◌, ◌≤◌, ◌<◌, ◌≡◌, refl, Bool, true, false, ◌&&◌, List, [], ◌∷◌, length, drop}
use Rattle.std.proofs.Math.Numerals.{add-one}
use Rattle.std.proofs.Common.{arith, sym, ◌∙◌}
use Rattle.rules.specs.Table.{get, any, all, each, sum_of}

module _ {A : Type 0} where
  -- the entry at i, and those after it
  pub drop_next : (d : A) (l : List A) (i : ℕ) → i < length l → drop i l ≡ get d l i ∷ drop (i + 1) l
  drop_next d [] i h = absurd (omega arith)
  drop_next d (x ∷ l) zero h = refl
  drop_next d (x ∷ l) (suc i) h = let e : suc i + 1 ≡ suc (i + 1) = omega arith in rw e (drop_next d l i (omega arith))

  -- the test of the entries from i on
  abbrev pub from : (ℕ → A → Bool) → List A → ℕ → Bool
  from f l i = each f i (drop i l)

  -- nothing stands past the end
  pub drop_past : (l : List A) (i : ℕ) → length l ≤ i → drop i l ≡ []
  drop_past [] zero h = refl
  drop_past [] (suc i) h = refl
  drop_past (x ∷ l) zero h = absurd (omega arith)
  drop_past (x ∷ l) (suc i) h = drop_past l i (omega arith)

  -- an entry in the table, whatever stands past its end
  pub get_any : (d e : A) (l : List A) (i : ℕ) → i < length l → get d l i ≡ get e l i
  get_any d e [] i h = absurd (omega arith)
  get_any d e (x ∷ l) zero h = refl
  get_any d e (x ∷ l) (suc i) h = get_any d e l i (omega arith)

  module _ (f : ℕ → A → Bool) (d : A) (l : List A) (i : ℕ) where
    -- an entry that passes
    pub each_pass : i < length l → true ≡ f i (get d l i) → each f i (drop i l) ≡ each f (i + 1) (drop (i + 1) l)
    unfolding each
    each_pass h e = rw (drop_next d l i h, ← e, add-one i)

    -- one that does not
    pub each_fail : i < length l → false ≡ f i (get d l i) → each f i (drop i l) ≡ false
    unfolding each
    each_fail h e = rw (drop_next d l i h, ← e)

  -- n entries that pass
  pub each_skip : (f : ℕ → A → Bool) (d : A) (l : List A) (i n : ℕ) → i + n ≤ length l → ((k : ℕ) → i ≤ k → k < i + n → f k (get d l k) ≡ true)
      → from f l i ≡ from f l (i + n)
  each_skip f d l i zero h p = let e : i + 0 ≡ i = omega arith in rw e refl
  each_skip f d l i (suc n) h p =
      let e : i + n + 1 ≡ i + suc n = omega arith in
      each_skip f d l i n (omega arith) (λ k a b. p k a (omega arith))
      ∙ rw e at (each_pass f d l (i + n) (omega arith) (sym (p (i + n) (omega arith) (omega arith))))

  -- some that were tested together, before those at j: they pass
  pub some_pass : (f : ℕ → A → Bool) (l : List A) (i j k : ℕ) (r : Bool) → from f l i ≡ (r && from f l j) → r ≡ true → j ≡ k → from f l i ≡ from f l k
  some_pass f l i j k r q e h = rw (q, e, h) refl

  -- they do not
  pub some_fail : (f : ℕ → A → Bool) (l : List A) (i j : ℕ) (r : Bool) → from f l i ≡ (r && from f l j) → r ≡ false → from f l i ≡ false
  some_fail f l i j r q e = rw (q, e) refl

  -- none is left
  pub each_none : (f : ℕ → A → Bool) (l : List A) (i : ℕ) → length l ≤ i → each f i (drop i l) ≡ true
  unfolding each
  each_none f l i h = rw (drop_past l i h)

  module _ (f : A → Bool) (d : A) (l : List A) (i : ℕ) where
    -- likewise without a number
    pub all_pass : i < length l → true ≡ f (get d l i) → all f (drop i l) ≡ all f (drop (i + 1) l)
    unfolding all
    all_pass h e = rw (drop_next d l i h, ← e)

    pub all_fail : i < length l → false ≡ f (get d l i) → all f (drop i l) ≡ false
    unfolding all
    all_fail h e = rw (drop_next d l i h, ← e)

  pub all_none : (f : A → Bool) (l : List A) (i : ℕ) → length l ≤ i → all f (drop i l) ≡ true
  unfolding all
  all_none f l i h = rw (drop_past l i h)

  -- an entry that passes ends the search for one; the search goes on behind one that does not
  module _ (f : A → Bool) (d : A) (l : List A) (i : ℕ) where
    pub any_hit : i < length l → true ≡ f (get d l i) → any f (drop i l) ≡ true
    unfolding any
    any_hit h e = rw (drop_next d l i h, ← e)

    pub any_miss : i < length l → false ≡ f (get d l i) → any f (drop i l) ≡ any f (drop (i + 1) l)
    unfolding any
    any_miss h e = rw (drop_next d l i h, ← e)

  pub any_past : (f : A → Bool) (l : List A) (i : ℕ) → length l ≤ i → any f (drop i l) ≡ false
  unfolding any
  any_past f l i h = rw (drop_past l i h)

  -- a sum over the entries: c of those before i, and what is left
  module _ (f : A → ℕ) (l : List A) (i c : ℕ) (e : sum_of f l ≡ c + sum_of f (drop i l)) where
    pub sum_more : (d : A) (r : ℕ) → i < length l → r ≡ f (get d l i) → sum_of f l ≡ c + r + sum_of f (drop (i + 1) l)
    unfolding sum_of
    sum_more d r h q = let s = rw (drop_next d l i h) at e in rw q (omega (arith, s))

    pub sum_none : length l ≤ i → c ≡ sum_of f l
    unfolding sum_of
    sum_none h = let s = rw (drop_past l i h) at e in omega (arith, s)
