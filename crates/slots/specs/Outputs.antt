-- The batches of a port go to the outputs one after the other.
use Rattle.std.specs.Prelude.{◌≡◌, refl, List, [], ◌∷◌, ◌++◌, map, ℕ, zero, suc, ◌+◌, ◌≤◌, ◌<◌, length, take}
use Rattle.std.proofs.Common.{sym, ap, ◌∙◌, arith, length-take-le, take_all, lt-ltb}
use Rattle.std.proofs.lemmas.List.{length-map}
use Rattle.rules.specs.Table.{get}
use Rattle.rules.specs.Port.{Batch, no_batch, capacity}
use Rattle.rules.specs.Machine.{Machine, Output, queue_at, set_queue, with_outputs}
use Rattle.rules.specs.Wake.{wake_writer}
use Rattle.rules.specs.Scan.{output_of}
use Rattle.tables.specs.Rings.{appended}

-- what a port holds is put out, and its writer may go on
abbrev pub put_out : ℕ → ℕ → Machine → Machine
put_out x t m = wake_writer x (set_queue x [] (with_outputs (m.outputs ++ map (output_of t) (queue_at m x)) m))

pub put_out_is : (x t : ℕ) (m m₁ m₂ m₃ : Machine) → m.outputs ≡ [] → m₁ ≡ with_outputs (map (output_of t) (queue_at m x)) m → m₂ ≡ set_queue x [] m₁ →
    m₃ ≡ wake_writer x m₂
    → m₃ ≡ put_out x t m
put_out_is x t m m₁ m₂ m₃ o a b c =
    rw (c, b, a) (ap (λ (os : List Output). wake_writer x (set_queue x [] (with_outputs (os ++ map (output_of t) (queue_at m x)) m))) (sym o))

-- one batch more
map_more : (f : Batch → Output) (q : List Batch) (i : ℕ) → i < length q → map f (take i q) ++ f (get no_batch q i) ∷ [] ≡ map f (take (suc i) q)
map_more f [] i h = absurd (omega arith)
map_more f (b ∷ q) zero h = refl
map_more f (b ∷ q) (suc i) h = ap (λ (os : List Output). f b ∷ os) (map_more f q i (omega arith))

held_more : (f : Batch → Output) (q : List Batch) (i : ℕ) → i < length q → length q ≤ capacity →
    appended capacity (f (get no_batch q i)) (map f (take i q)) ≡ map f (take (suc i) q)
held_more f q i h l =
    let n : length (map f (take i q)) ≡ i = length-map (take i q) f ∙ length-take-le i q (omega (arith, h)) in
    rw (lt-ltb (length (map f (take i q))) capacity (omega (arith, n, h, l))) (map_more f q i h)

-- the first i batches of port x are held
abbrev pub Holding : ℕ → ℕ → ℕ → Machine → Machine → Type 0
Holding x t i m₀ m = m ≡ with_outputs (map (output_of t) (take i (queue_at m₀ x))) m₀

pub holding_start : (x t : ℕ) (m : Machine) → m.outputs ≡ [] → Holding x t 0 m m
holding_start x t m o = ap (λ (os : List Output). with_outputs os m) o

-- the port is as it was
pub holding_queue : (x t i n : ℕ) (m₀ m : Machine) → Holding x t i m₀ m → n ≡ length (queue_at m₀ x) → i < n → i < length (queue_at m x)
holding_queue x t i n m₀ m h e l = rw h (omega (arith, e, l))

pub holding_next : (x t i n : ℕ) (b : Batch) (m₀ m m' : Machine) → n ≡ length (queue_at m₀ x) → i < n → length (queue_at m₀ x) ≤ capacity →
    b ≡ get no_batch (queue_at m x) i
    → m' ≡ with_outputs (appended capacity (output_of t b) m.outputs) m → Holding x t i m₀ m → Holding x t (i + 1) m₀ m'
holding_next x t i n b m₀ m m' e l s d f h =
    let a : i + 1 ≡ suc i = omega arith in
    rw (a, f, d, h) (ap (λ (os : List Output). with_outputs os m₀) (held_more (output_of t) (queue_at m₀ x) i (omega (arith, e, l)) s))

pub holding_end : (x t i n : ℕ) (m₀ m : Machine) → n ≡ length (queue_at m₀ x) → n ≤ i → Holding x t i m₀ m → m ≡ with_outputs (map (output_of t) (queue_at m₀ x)) m₀
holding_end x t i n m₀ m e l h =
    let a : take i (queue_at m₀ x) ≡ queue_at m₀ x = take_all i (queue_at m₀ x) (omega (arith, e, l)) in
    rw a at h
