-- The numbers of the nodes, one after another.
use Rattle.std.specs.Prelude.{◌≡◌, true, false, List, ◌∷◌, ℕ, suc, ◌+◌, ◌-◌, ◌≤◌, ◌<◌, length, take, drop, get_or}
use Rattle.std.proofs.Math.Path.{refl}
use Rattle.std.proofs.Common.{arith, drop-cons}
use Rattle.std.proofs.Math.Numerals.{add-one}
use borrow.Author.Tests.{lt-leb, le-leb, lt-ltb, le-ltb}
use Rattle.rules.specs.Check.{labels_from, labels_ok}
use Rattle.tables.specs.View.{view, machine_len, labels_at}

-- those from number i on, of n
abbrev pub left : List ℕ → ℕ → ℕ → List ℕ
left s n i = take (n - i) (drop (machine_len + i) s)

pub labels_start : (s : List ℕ) (n : ℕ) → n ≡ length (view s).job.nodes → labels_ok (labels_at s) ≡ labels_from 0 (left s n 0)
unfolding labels_at
labels_start s n e = let z : n - 0 ≡ n = omega arith in rw (z, ← e) refl

pub labels_end : (s : List ℕ) (n i least : ℕ) → n ≤ i → labels_from least (left s n i) ≡ true
unfolding labels_from
labels_end s n i least h = let z : n - i ≡ 0 = omega arith in rw z refl

module _ (s : List ℕ) (n i least x : ℕ) (h : i < n) (l : machine_len + i < length s) (e : x ≡ get_or s (machine_len + i) 0) where
  next : left s n i ≡ x ∷ left s n (i + 1)
  next =
      let z : n - i ≡ suc (n - (i + 1)) = omega arith in
      let k : suc (machine_len + i) ≡ machine_len + (i + 1) = omega arith in
      rw (z, drop-cons s (machine_len + i) 0 l, k, e) refl

  pub labels_low : x < least → labels_from least (left s n i) ≡ false
  unfolding labels_from
  labels_low a = rw (next, lt-leb least x a) refl

  pub labels_high : least ≤ x → 24 ≤ x → labels_from least (left s n i) ≡ false
  unfolding labels_from
  labels_high a b = rw (next, le-leb least x a, le-ltb x 24 b) refl

  pub labels_next : least ≤ x → x < 24 → labels_from least (left s n i) ≡ labels_from (x + 1) (left s n (i + 1))
  unfolding labels_from
  labels_next a b = rw (next, le-leb least x a, lt-ltb x 24 b, add-one x) refl
