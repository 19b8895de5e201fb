-- A source of a leaf's segment, looked for leaf by leaf.
use Prim.Native.Nat.{ℕ, zero, suc, ◌+◌, ◌-◌, ◌≤◌, ◌<◌}
use Rattle.std.proofs.Common.{add-one, ◌∙◌, ltb-true}
use native.Mathlib.Omega.{arith}
use Rattle.std.specs.Prelude.{◌≡◌, Bool, ◌&&◌, ◌||◌, List, ltb}
use Rattle.std.proofs.Math.Path.{sym, ap}
use Rattle.std.proofs.Math.Bool.{true, false}
use Rattle.std.proofs.Math.ListN.{length}
use Rattle.rules.specs.Table.{filter, any, up_from}
use Rattle.rules.specs.Plan.{is_leaf, names}
use Rattle.rules.specs.Machine.{Machine, live}
use Rattle.rules.specs.Check.{has_source}
use Rattle.laws.specs.Table.{by_bool, and_left, and_right}
use Rattle.reach.specs.Leaves.{named, named_next}

-- the source at leaf g is of the segment of leaf l, and lives
abbrev pub is_source : Machine → ℕ → ℕ → Bool
is_source m l g = names m.job l g && live m (72 + g)

-- the answer is that for the leaves from i on
abbrev pub Seeks : Machine → ℕ → ℕ → Type 0
Seeks m l i = has_source m l ≡ any (λ g. live m (72 + g)) (named m.job l i)

module _ (m : Machine) (l : ℕ) where
  lives : List ℕ → Bool
  lives xs = any (λ g. live m (72 + g)) xs

  pub seeks_start : Seeks m l 0
  unfolding has_source
  seeks_start = let e : length m.job.nodes - 0 ≡ length m.job.nodes = omega arith in rw e

  -- a leaf more, by whether it is one of the segment's
  next_named : (i : ℕ) → i < length m.job.nodes → names m.job l i ≡ true
      → lives (named m.job l i) ≡ (live m (72 + i) || lives (named m.job l (suc i)))
  unfolding lives any
  next_named i h e = ap lives (named_next m.job l i h) ∙ rw e

  next_other : (i : ℕ) → i < length m.job.nodes → names m.job l i ≡ false → lives (named m.job l i) ≡ lives (named m.job l (suc i))
  next_other i h e = ap lives (named_next m.job l i h) ∙ rw e

  pub seeks_hit : (i : ℕ) → i < length m.job.nodes → Seeks m l i → is_source m l i ≡ true → true ≡ has_source m l
  unfolding lives
  seeks_hit i h s e =
      sym (s ∙ next_named i h (and_left (names m.job l i) _ e) ∙ rw (and_right (names m.job l i) (live m (72 + i)) e))

  pub seeks_miss : (i : ℕ) → i < length m.job.nodes → Seeks m l i → is_source m l i ≡ false → Seeks m l (i + 1)
  unfolding lives
  seeks_miss i h s e = rw (add-one i) (by_bool (names m.job l i)
      (λ n. let d : live m (72 + i) ≡ false = rw n at e in s ∙ next_named i h n ∙ rw d)
      (λ n. s ∙ next_other i h n))

  pub seeks_end : (i : ℕ) → length m.job.nodes ≤ i → Seeks m l i → false ≡ has_source m l
  unfolding filter up_from any
  seeks_end i h s = let e : length m.job.nodes - i ≡ 0 = omega arith in sym (s ∙ rw e)

  -- the leaf itself is among those from i on
  among_own : (k i : ℕ) → i + k ≡ l → l < length m.job.nodes → is_source m l l ≡ true → lives (named m.job l i) ≡ true
  unfolding lives
  among_own zero i q h e =
      let w : i ≡ l = omega arith in
      rw w (next_named l h (and_left (names m.job l l) _ e) ∙ rw (and_right (names m.job l l) (live m (72 + l)) e))
  among_own (suc k) i q h e =
      let r : lives (named m.job l (suc i)) ≡ true = among_own k (suc i) (omega arith) h e in
      by_bool (names m.job l i)
      (λ n. next_named i (omega arith) n ∙ by_bool (live m (72 + i)) (λ d. rw d) (λ d. rw d r))
      (λ n. next_other i (omega arith) n ∙ r)

  pub own_source : is_source m l l ≡ true → true ≡ has_source m l
  unfolding lives
  own_source e =
      let n = and_left (is_leaf m.job l) _ (and_left (names m.job l l) _ e) in
      sym (seeks_start ∙ among_own l 0 (omega arith) (ltb-true l (length m.job.nodes) (and_left (ltb l (length m.job.nodes)) _ n)) e)
