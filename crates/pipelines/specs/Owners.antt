-- A list of which the first entries are changed, and the owner of a read.
use Rattle.std.specs.Prelude.{◌≡◌, ◌≢◌, length, if◌then◌else◌}
use Rattle.std.proofs.Math.Path.{refl, ap}
use Rattle.std.proofs.Common.{◌∙◌, arith, eq-eqb, ne_eqb}
use mathlib.Core.List.{List, [], ◌∷◌, map}
use Rattle.std.proofs.Math.Option.{Option, none, some}
use Prim.Native.Nat.{ℕ, zero, suc, ◌+◌, ◌≤◌, ◌<◌}
use Rattle.rules.specs.Table.{get, put, is_some}
use Rattle.rules.specs.Machine.{Machine, Read, no_read, with_reads}
use Rattle.rules.specs.Pipelines.{disowned}

-- an owner, unless it is p
abbrev pub other_owner : ℕ → Option ℕ → Option ℕ
other_owner p o = if is_some p o then none else o

pub owner_none : (p : ℕ) → none ≡ other_owner p none
unfolding is_some
owner_none p = refl

pub owner_same : (p q : ℕ) → p ≡ q → none ≡ other_owner p (some q)
unfolding is_some
owner_same p q e = rw (eq-eqb p q e)

pub owner_other : (p q : ℕ) → p ≢ q → some q ≡ other_owner p (some q)
unfolding is_some
owner_other p q e = rw (ne_eqb p q e)

module _ {A : Type 0} (f : A → A) where
  -- the first i entries changed
  unfoldable pub map_to : ℕ → List A → List A
  map_to zero xs = xs
  map_to (suc i) [] = []
  map_to (suc i) (x ∷ xs) = f x ∷ map_to i xs

  pub map_to_length : (i : ℕ) (xs : List A) → length (map_to i xs) ≡ length xs
  unfolding map_to
  map_to_length zero xs = refl
  map_to_length (suc i) [] = refl
  map_to_length (suc i) (x ∷ xs) = ap suc (map_to_length i xs)

  map_to_get : (d : A) (i : ℕ) (xs : List A) → get d (map_to i xs) i ≡ get d xs i
  unfolding map_to
  map_to_get d zero xs = refl
  map_to_get d (suc i) [] = refl
  map_to_get d (suc i) (x ∷ xs) = map_to_get d i xs

  map_to_put : (d : A) (i : ℕ) (xs : List A) → i < length xs → put d (map_to i xs) i (f (get d xs i)) ≡ map_to (suc i) xs
  unfolding map_to
  map_to_put d i [] h = absurd (omega arith)
  map_to_put d zero (x ∷ xs) h = refl
  map_to_put d (suc i) (x ∷ xs) h = ap (λ (ys : List A). f x ∷ ys) (map_to_put d i xs (omega arith))

  pub map_to_next : (d : A) (i : ℕ) (xs ys : List A) → i < length xs → ys ≡ map_to i xs → put d ys i (f (get d ys i)) ≡ map_to (suc i) xs
  map_to_next d i xs ys h e = rw (e, map_to_get d i xs) (map_to_put d i xs h)

  pub map_to_all : (i : ℕ) (xs : List A) → length xs ≤ i → map_to i xs ≡ map f xs
  unfolding map_to
  map_to_all zero [] h = refl
  map_to_all zero (x ∷ xs) h = absurd (omega arith)
  map_to_all (suc i) [] h = refl
  map_to_all (suc i) (x ∷ xs) h = ap (λ (ys : List A). f x ∷ ys) (map_to_all i xs (omega arith))

-- the first i reads have lost their owner p
abbrev pub Disowned : ℕ → ℕ → Machine → Machine → Type 0
Disowned p i m₀ m = m ≡ with_reads (map_to (disowned p) i m₀.reads) m₀

pub disowned_none : (p : ℕ) (m : Machine) → Disowned p 0 m m
unfolding map_to
disowned_none p m = refl

pub disowned_length : (p i : ℕ) (m₀ m : Machine) → Disowned p i m₀ m → length m.reads ≡ length m₀.reads
disowned_length p i m₀ m d = rw d (map_to_length (disowned p) i m₀.reads)

pub disowned_next : (p i : ℕ) (m₀ m m' : Machine) → i < length m₀.reads → Disowned p i m₀ m
    → m' ≡ with_reads (put no_read m.reads i (disowned p (get no_read m.reads i))) m → Disowned p (i + 1) m₀ m'
disowned_next p i m₀ m m' h d e =
    let s : i + 1 ≡ suc i = omega arith in
    rw (s, e, d) (ap (λ (rs : List Read). with_reads rs m₀) (map_to_next (disowned p) no_read i m₀.reads (map_to (disowned p) i m₀.reads) h refl))

pub disowned_all : (p i : ℕ) (m₀ m : Machine) → length m₀.reads ≤ i → Disowned p i m₀ m → m ≡ with_reads (map (disowned p) m₀.reads) m₀
disowned_all p i m₀ m h d = d ∙ ap (λ (rs : List Read). with_reads rs m₀) (map_to_all (disowned p) i m₀.reads h)
