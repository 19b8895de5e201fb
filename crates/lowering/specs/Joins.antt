-- The ports of a node's children get their reader, one after the other.
use Rattle.std.specs.Prelude.{◌≡◌, refl, List, [], ◌∷◌, map, ℕ, zero, suc, ◌+◌, ◌≤◌, ◌<◌, length, get_or, take, drop}
use Rattle.std.proofs.Common.{sym, ◌∙◌, arith, drop_of_length-le, get_or-take, length-take-le}
use Rattle.std.proofs.Math.Option.{none}
use Rattle.rules.specs.Table.{get}
use Rattle.rules.specs.Operators.{Source}
use Rattle.rules.specs.Plan.{kept_kids}
use Rattle.rules.specs.Machine.{Machine, pipe, place}
use Rattle.rules.specs.Lower.{connect, join_from, lower_join}
use Rattle.rules.specs.Pipelines.{lay}
use Rattle.laws.specs.Table.{get_get_or}
use Rattle.laws.specs.Rows.{All, All-get}

-- the pipeline at q reads these ports, from inlet i on
unfoldable pub join_ports : ℕ → ℕ → List ℕ → Machine → Machine
join_ports q i [] m = m
join_ports q i (x ∷ xs) m = join_ports q (suc i) xs (connect x (pipe q i) m)

join_is : (k n i : ℕ) (cs : List ℕ) (m : Machine) → join_from k n i cs m ≡ join_ports (place k n) i (map (place k) cs) m
unfolding join_from join_ports
join_is k n i [] m = refl
join_is k n i (c ∷ cs) m = join_is k n (suc i) cs (connect (place k c) (pipe (place k n) i) m)

-- The loop

each_next : (q i a : ℕ) (xs : List ℕ) (m : Machine) → a < length xs →
    join_ports q i (drop a xs) m ≡ join_ports q (suc i) (drop (suc a) xs) (connect (get 0 xs a) (pipe q i) m)
unfolding join_ports
each_next q i a [] m h = absurd (omega arith)
each_next q i zero (x ∷ xs) m h = refl
each_next q i (suc a) (x ∷ xs) m h = each_next q i a xs m (omega arith)

-- what is left to join from inlet i on is what was to join
abbrev pub Joining : ℕ → List ℕ → ℕ → Machine → Machine → Type 0
Joining q xs i m₀ m = join_ports q i (drop i xs) m ≡ join_ports q 0 xs m₀

pub joining_next : (q i x : ℕ) (xs : List ℕ) (m₀ m m' : Machine) → i < length xs → x ≡ get 0 xs i → m' ≡ connect x (pipe q i) m → Joining q xs i m₀ m →
    Joining q xs (i + 1) m₀ m'
joining_next q i x xs m₀ m m' h e f d =
    let s : i + 1 ≡ suc i = omega arith in
    rw (s, f, e) (sym (each_next q i i xs m h) ∙ d)

pub joining_end : (q i : ℕ) (xs : List ℕ) (m₀ m : Machine) → length xs ≤ i → Joining q xs i m₀ m → m ≡ join_ports q 0 xs m₀
unfolding join_ports
joining_end q i xs m₀ m h d = let e : drop i xs ≡ [] = drop_of_length-le xs {i = i} h in rw e at d

-- the ports of a table of 23, of which the first n count
module _ (ps : List ℕ) (n : ℕ) (l : length ps ≡ 23) (h : n ≤ 23) where
  pub taken_length : length (take n ps) ≡ n
  taken_length = length-take-le n ps (omega arith)

  pub taken_at : (i x : ℕ) → i < n → x ≡ get_or ps i 0 → x ≡ get 0 (take n ps) i
  taken_at i x k e = e ∙ sym (get_get_or 0 (take n ps) i ∙ get_or-take n ps i 0 k)

  pub taken_low : (i x : ℕ) → i < n → x ≡ get_or ps i 0 → All (λ z. z < 96) (take n ps) → x < 96
  taken_low i x k e a = rw (taken_at i x k e) (All-get (λ z. z < 96) 0 (take n ps) i a (omega (arith, taken_length)))

-- a node's children joined, then the node
pub join_lays : (source : Source) (k t n : ℕ) (xs : List ℕ) (m m₁ m₂ : Machine) → xs ≡ map (place k) (kept_kids m.job n t) → m₁ ≡ join_ports (place k n) 0 xs m
    → m₂ ≡ lay (place k n) source none xs m₁ → m₂ ≡ lower_join source k t n m
join_lays source k t n xs m m₁ m₂ e f g = rw (g, f, e, ← join_is k n 0 (kept_kids m.job n t) m)
