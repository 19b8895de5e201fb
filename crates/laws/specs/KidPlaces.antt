-- The children of a node, and where their rows stand one after another.
use Rattle.std.specs.Prelude.{◌≡◌, ltb}
use Rattle.std.proofs.Math.Path.{refl}
use mathlib.Core.List.{List, [], ◌∷◌}
use Rattle.std.proofs.Math.Option.{some}
use Prim.Native.Nat.{ℕ, zero, suc, ◌+◌, ◌≤◌, ◌<◌}
use native.Mathlib.Omega.{arith}
use Rattle.std.proofs.Common.{add-zero, zero-add, lt-ltb, le-ltb}
use Rattle.rules.specs.Table.{is_some, filter, sum_of}
use Rattle.rules.specs.Job.{Node, node_at, kids_from, kids}
use Rattle.laws.specs.Table.{by_bool, clash}
use Rattle.laws.specs.Rows.{All}
use Rattle.laws.specs.Rising.{Rising}
use Rattle.laws.specs.Kids.{is_some_lem, some_is}

-- All

pub All-zip {ℓ} : {A : Type 0} (P Q R : A → Type ℓ) → ((x : A) → P x → Q x → R x) → (xs : List A) → All P xs → All Q xs → All R xs
All-zip P Q R f [] p q = tt
All-zip P Q R f (x ∷ xs) p q = (f x p.0 q.0, All-zip P Q R f xs p.1 q.1)

pub All-map {ℓ} : {A : Type 0} (P Q : A → Type ℓ) → ((x : A) → P x → Q x) → (xs : List A) → All P xs → All Q xs
All-map P Q f [] p = tt
All-map P Q f (x ∷ xs) p = (f x p.0, All-map P Q f xs p.1)

-- the children are the nodes with that parent
module _ (n : ℕ) where
  each_from {ℓ} : (P : ℕ → Type ℓ) (i : ℕ) (xs : List Node) → ((k : ℕ) → (node_at xs k).parent ≡ some n → P (i + k)) → All P (kids_from i n xs)
  unfolding kids_from
  each_from P i [] h = tt
  each_from P i (x ∷ xs) h =
      let rest = each_from P (suc i) xs (λ k e. let d : i + suc k ≡ suc i + k = omega arith in rw d at (h (suc k) e)) in
      by_bool (is_some n x.parent) (λ e. rw (e, kids_from) (rw (add-zero i) at (h 0 (is_some_lem n x.parent e)), rest)) (λ e. rw (e, kids_from) rest)

  each_of {ℓ} : (P : ℕ → Type ℓ) (i : ℕ) (xs : List Node) (k : ℕ) → All P (kids_from i n xs) → (node_at xs k).parent ≡ some n → P (i + k)
  unfolding kids_from
  each_of P i [] k h e = clash (cc)
  each_of P i (x ∷ xs) zero h e = rw (add-zero i) (rw (some_is n x.parent e, kids_from) at h).0
  each_of P i (x ∷ xs) (suc k) h e =
      let d : i + suc k ≡ suc i + k = omega arith in
      rw d (by_bool (is_some n x.parent)
      (λ t. each_of P (suc i) xs k (rw (t, kids_from) at h).1 e)
      (λ t. each_of P (suc i) xs k (rw (t, kids_from) at h) e))

pub kids_each {ℓ} : (P : ℕ → Type ℓ) (ns : List Node) (n : ℕ) → ((c : ℕ) → (node_at ns c).parent ≡ some n → P c) → All P (kids ns n)
kids_each P ns n h = each_from n P 0 ns (λ k e. rw (zero-add k) (h k e))

pub kids_of {ℓ} : (P : ℕ → Type ℓ) (ns : List Node) (n c : ℕ) → All P (kids ns n) → (node_at ns c).parent ≡ some n → P c
kids_of P ns n c h e = rw (zero-add c) at (each_of n P 0 ns c h e)

pub rising_all : (i : ℕ) (cs : List ℕ) → Rising i cs → All (λ c. i ≤ c) cs
rising_all i [] h = tt
rising_all i (c ∷ cs) h = (h.0, All-map (λ d. suc c ≤ d) (λ d. i ≤ d) (λ d k. omega (arith, h.0)) cs (rising_all (suc c) cs h.1))

module _ (rows : ℕ → ℕ) where
  -- the rows of those before d
  abbrev pub before : ℕ → List ℕ → ℕ
  before d cs = sum_of rows (filter (λ c. ltb c d) cs)

  pub before_none : (d i : ℕ) (cs : List ℕ) → Rising i cs → d ≤ i → before d cs ≡ 0
  unfolding sum_of filter
  before_none d i [] r h = refl
  before_none d i (c ∷ cs) r h = rw (le-ltb c d (omega (arith, r.0)), filter) (before_none d (suc c) cs r.1 (omega (arith, r.0)))

  pub before_more : (d c : ℕ) (cs : List ℕ) → c < d → before d (c ∷ cs) ≡ rows c + before d cs
  unfolding sum_of filter
  before_more d c cs h = rw (lt-ltb c d h, filter)

module _ (at rows : ℕ → ℕ) where
  -- rows one after another, from a on
  abbrev pub Placed : ℕ → List ℕ → Type 0
  Placed a [] = Unit
  Placed a (c ∷ cs) = (at c ≡ a) × Placed (a + rows c) cs

  -- each stands behind the rows of those before it
  pub placed : (i a : ℕ) (cs : List ℕ) → Rising i cs → All (λ c. at c ≡ before rows c cs + a) cs → Placed a cs
  placed i a [] r h = tt
  placed i a (c ∷ cs) r h = (
    omega (arith, h.0, before_none rows c c (c ∷ cs) (omega arith, r.1) (omega arith)),
    placed (suc c) (a + rows c) cs r.1 (All-zip
        (λ d. suc c ≤ d)
        (λ d. at d ≡ before rows d (c ∷ cs) + a)
        (λ d. at d ≡ before rows d cs + (a + rows c))
        (λ d k e. omega (arith, k, e, before_more rows d c cs k))
        cs
        (rising_all (suc c) cs r.1)
        h.1),
  )

  -- and within the rows of all
  pub placed_within : (a : ℕ) (cs : List ℕ) → Placed a cs → All (λ c. (a ≤ at c) × (at c + rows c ≤ a + sum_of rows cs)) cs
  unfolding sum_of
  placed_within a [] h = tt
  placed_within a (c ∷ cs) h = (
    (omega (arith, h.0), omega (arith, h.0)),
    All-map
        (λ d. (a + rows c ≤ at d) × (at d + rows d ≤ a + rows c + sum_of rows cs))
        (λ d. (a ≤ at d) × (at d + rows d ≤ a + (rows c + sum_of rows cs)))
        (λ d k. (omega (arith, k.0), omega (arith, k.1)))
        cs
        (placed_within (a + rows c) cs h.1),
  )
