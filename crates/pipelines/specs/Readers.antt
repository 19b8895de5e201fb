-- The readers of a list of ports go, one after the other; the other tables stay.
use Rattle.std.specs.Prelude.{◌≡◌, refl, Bool, true, false, ◌||◌, List, [], ◌∷◌, ℕ, zero, suc, ◌+◌, ◌≤◌, ◌<◌, leb, length, drop}
use Rattle.std.proofs.Common.{sym, ap, ◌∙◌, arith, drop_of_length-le}
use Rattle.rules.specs.Table.{get}
use Rattle.rules.specs.Machine.{Machine, Port, port_at, is_share_port, set_port, set_queue}
use Rattle.rules.specs.Ports.{free_port, readerless, drop_inlet, drop_each}
use Rattle.laws.specs.Table.{by_bool}
use Rattle.laws.specs.Rows.{All, All-get}

-- by whether the port is closed or shared
module _ (x : ℕ) (m : Machine) (v : Port) (a b : Bool) (e : v ≡ port_at m x) (p : a ≡ leb 72 x) (q : b ≡ (v.closed || a)) where
  over_is : b ≡ ((port_at m x).closed || is_share_port x)
  over_is = q ∙ rw (e, p)

  pub drop_over : b ≡ true → free_port x m ≡ drop_inlet x m
  drop_over t = let u : ((port_at m x).closed || is_share_port x) ≡ true = sym over_is ∙ t in rw (u, drop_inlet)

  pub drop_open : (w : Port) → w ≡ readerless v → b ≡ false → set_queue x [] (set_port x w m) ≡ drop_inlet x m
  drop_open w i t = let u : ((port_at m x).closed || is_share_port x) ≡ false = sym over_is ∙ t in rw (u, drop_inlet, i, e)

-- What stays

drop_inlets : (x : ℕ) (m : Machine) → (drop_inlet x m).inlets ≡ m.inlets
drop_inlets x m = by_bool ((port_at m x).closed || is_share_port x) (λ e. rw (e, drop_inlet)) (λ e. rw (e, drop_inlet))

drop_freed : (x : ℕ) (m : Machine) → (drop_inlet x m).freed ≡ m.freed
drop_freed x m = by_bool ((port_at m x).closed || is_share_port x) (λ e. rw (e, drop_inlet)) (λ e. rw (e, drop_inlet))

pub drops_freed : (xs : List ℕ) (m : Machine) → (drop_each xs m).freed ≡ m.freed
unfolding drop_each
drops_freed [] m = refl
drops_freed (x ∷ xs) m = drops_freed xs (drop_inlet x m) ∙ drop_freed x m

-- The loop

each_next : (xs : List ℕ) (i : ℕ) (m : Machine) → i < length xs → drop_each (drop i xs) m ≡ drop_each (drop (suc i) xs) (drop_inlet (get 0 xs i) m)
unfolding drop_each
each_next [] i m h = absurd (omega arith)
each_next (x ∷ xs) zero m h = refl
each_next (x ∷ xs) (suc i) m h = each_next xs i m (omega arith)

-- what is left to do from inlet i on is what was to do, and the table of inlets is as it was
abbrev pub Dropping : List ℕ → ℕ → Machine → Machine → Type 0
Dropping xs i m₀ m = (m.inlets ≡ m₀.inlets) × (drop_each (drop i xs) m ≡ drop_each xs m₀)

pub dropping_next : (xs : List ℕ) (i x : ℕ) (m₀ m m' : Machine) → i < length xs → x ≡ get 0 xs i → m' ≡ drop_inlet x m → Dropping xs i m₀ m →
    Dropping xs (i + 1) m₀ m'
dropping_next xs i x m₀ m m' h e f d =
    let s : i + 1 ≡ suc i = omega arith in
    rw (s, f, e) (drop_inlets (get 0 xs i) m ∙ d.0, sym (each_next xs i m h) ∙ d.1)

pub dropping_end : (xs : List ℕ) (i : ℕ) (m₀ m : Machine) → length xs ≤ i → Dropping xs i m₀ m → m ≡ drop_each xs m₀
unfolding drop_each
dropping_end xs i m₀ m h d = let e : drop i xs ≡ [] = drop_of_length-le xs {i = i} h in rw e at d.1

-- the table of inlets as it was: the port of an inlet is what it was, and in range
module _ (T₀ T : List (List ℕ)) (p i x y : ℕ) (e : T ≡ T₀) (f : y ≡ get 0 (get [] T p) i) (g : x ≡ y) where
  pub inlet_same : x ≡ get 0 (get [] T₀ p) i
  inlet_same = g ∙ f ∙ ap (λ (t : List (List ℕ)). get 0 (get [] t p) i) e

  pub inlet_below : All (λ z. z < 456) (get [] T₀ p) → i < length (get [] T₀ p) → x < 456
  inlet_below a h = rw inlet_same (All-get (λ z. z < 456) 0 (get [] T₀ p) i a h)
