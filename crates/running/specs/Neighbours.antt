-- Writers of inlets are woken one after the other.
use Rattle.std.specs.Prelude.{◌≡◌, refl, List, [], ◌∷◌, map, reverse, ℕ, zero, suc, ◌+◌, ◌≤◌, ◌<◌, length, get_or, take, drop}
use Rattle.std.proofs.Common.{sym, ◌∙◌, arith, drop_of_length-le, get_or-take}
use Rattle.std.proofs.Math.Option.{Option, none, some}
use Rattle.std.proofs.Math.ListN.{get_elem?}
use Rattle.std.proofs.lemmas.List.{length-reverse}
use Rattle.rules.specs.Table.{get}
use Rattle.rules.specs.InletSet.{InletSet}
use Rattle.rules.specs.Machine.{Machine, inlets_at, outlets, set_touched}
use Rattle.rules.specs.Wake.{wake_writer, wake_writers, pass_marks}
use Rattle.rules.specs.Drive.{wake_neighbours}
use Rattle.laws.specs.Table.{get_past, get_get_or}

-- the writer of the port that an inlet has, where there is an inlet
abbrev pub wake_at : (ℕ → ℕ) → Option ℕ → Machine → Machine
wake_at f none m = m
wake_at f (some i) m = wake_writer (f i) m

pub at_number : (f : ℕ → ℕ) (x i : ℕ) (o : Option ℕ) (m : Machine) → x ≡ f i → o ≡ some i → wake_writer x m ≡ wake_at f o m
at_number f x i o m e d = rw (e, d)

pub at_nothing : (f : ℕ → ℕ) (o : Option ℕ) (m : Machine) → o ≡ none → m ≡ wake_at f o m
at_nothing f o m d = rw d

-- The port of an inlet, in the first n of a list or past them

pub port_in : (n : ℕ) (ps : List ℕ) (i k : ℕ) → k ≡ i → k < n → get_or ps k 0 ≡ get 0 (take n ps) i
port_in n ps i k e h = rw (← e) (sym (get_get_or 0 (take n ps) k ∙ get_or-take n ps k 0 h))

take_short : (n : ℕ) (l : List ℕ) → length (take n l) ≤ n
take_short zero l = omega arith
take_short (suc n) [] = omega arith
take_short (suc n) (x ∷ l) = let h = take_short n l in omega arith

pub port_past : (n : ℕ) (ps : List ℕ) (i k : ℕ) → k ≡ i → n ≤ k → 0 ≡ get 0 (take n ps) i
port_past n ps i k e h = sym (get_past 0 (take n ps) i (let a = take_short n ps in omega arith))

-- The loop

each_next : (f : ℕ → ℕ) (l : List ℕ) (k : ℕ) (m : Machine) → k < length l →
    wake_writers (map f (drop k l)) m ≡ wake_writers (map f (drop (suc k) l)) (wake_at f (get_elem? l k) m)
unfolding wake_writers
each_next f [] k m h = absurd (omega arith)
each_next f (x ∷ l) zero m h = refl
each_next f (x ∷ l) (suc k) m h = each_next f l k m (omega arith)

-- from number k of a list on, the writers still to be woken leave what all of them were to leave
abbrev pub Waking : (ℕ → ℕ) → List ℕ → ℕ → Machine → Machine → Type 0
Waking f l k m₀ m = wake_writers (map f (drop k l)) m ≡ wake_writers (map f l) m₀

pub waking_next : (f : ℕ → ℕ) (t : List ℕ) (n k : ℕ) (o : Option ℕ) (m₀ m m' : Machine) → n ≡ length t → k < n → o ≡ get_elem? (reverse t) k → m' ≡ wake_at f o m
    → Waking f (reverse t) k m₀ m → Waking f (reverse t) (k + 1) m₀ m'
waking_next f t n k o m₀ m m' q h e d w =
    let s : k + 1 ≡ suc k = omega arith in
    rw (s, d, e) (sym (each_next f (reverse t) k m (rw (length-reverse t) (omega (arith, q, h)))) ∙ w)

pub waking_end : (f : ℕ → ℕ) (t : List ℕ) (n k : ℕ) (m₀ m : Machine) → n ≡ length t → n ≤ k → Waking f (reverse t) k m₀ m →
    m ≡ wake_writers (map f (reverse t)) m₀
unfolding wake_writers
waking_end f t n k m₀ m q h w =
    let e : drop k (reverse t) ≡ [] = drop_of_length-le (reverse t) {i = k} (rw (length-reverse t) (omega (arith, q, h))) in
    rw e at w

-- The parts together
pub neighbours_is : (p : ℕ) (xs : List ℕ) (t u : InletSet) (m m₁ m₂ m₃ : Machine) → t ≡ get [] m.touched p → xs ≡ inlets_at m p →
    m₁ ≡ pass_marks (outlets m p) m
    → m₂ ≡ wake_writers (map (get 0 xs) (reverse t)) m₁ → u ≡ [] → m₃ ≡ set_touched p u m₂ → m₃ ≡ wake_neighbours p m
neighbours_is p xs t u m m₁ m₂ m₃ a b c d e f = rw (f, e, d, c, b, a)
