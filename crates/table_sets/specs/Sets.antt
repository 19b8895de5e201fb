-- The bytes of a set of inlets.
use Rattle.std.specs.Prelude.{◌≡◌, refl, Bool, true, false, List, [], ◌∷◌, ◌++◌, ℕ, zero, suc, min, ◌+◌, ◌*◌, ◌-◌, ◌≤◌, ◌<◌, length, get_or, take, drop, set, eqb, leb, if◌then◌else◌}
use Rattle.std.proofs.Common.{sym, ap, ◌∙◌, append-nil, arith, length-drop, take_all, get_or-take, length-take-le, le-leb, ne_eqb}
use Rattle.std.proofs.Math.ListN.{get_or-append}
use Rattle.std.proofs.Math.Seq.{take-length, drop-length}
use Rattle.std.proofs.lemmas.Bool.{lt-leb}
use Rattle.rules.specs.Table.{is_empty}
use Rattle.inlet_set.specs.declared.set.InletSet.{InletSet}
use Rattle.inlet_set.specs.InletSet.{set_of}
use Rattle.numbers.specs.Newest.{newest}
use Rattle.inlet_set.specs.InsertLaws.{count_is}
use Rattle.layout.specs.Cut.{splice}
use Rattle.layout.specs.Numbers.{stack}
use Rattle.layout.specs.Stored.{first_at, lent, part_is}
use Rattle.rules.specs.Table.{get}
use Rattle.rules.specs.InletSet as rules
use Rattle.rules.specs.Machine.{Machine, set_touched, set_changed}
use Rattle.tables.specs.View.{view, Sized, machine_len}
use Rattle.tables.specs.Change.{Becomes}
use Rattle.tables.specs.Loaded.{touched_loaded, changed_loaded}
use Rattle.tables.specs.Written.{Leaves, touched_written, changed_written}

-- only the first n count
newest_front : (xs ys : List ℕ) (n : ℕ) → n ≤ length xs → newest (xs ++ ys) n ≡ newest xs n
unfolding newest
newest_front xs ys zero h = refl
newest_front xs ys (suc n) h = rw (get_or-append xs ys 0 n h, newest_front xs ys n (omega arith))

newest_take : (xs : List ℕ) (m n : ℕ) → n ≤ m → newest (take m xs) n ≡ newest xs n
unfolding newest
newest_take xs m zero h = refl
newest_take xs m (suc n) h = rw (get_or-take m xs n 0 h, newest_take xs m n (omega arith))

-- a count past the table
pub get_past : (r : List ℕ) → 0 < length r → length r ≤ get_or r 0 0 → 255 ∷ [] ≡ stack r
unfolding stack
get_past [] h l = absurd (omega arith)
get_past (c ∷ xs) h l = rw (lt-leb c (length xs) l)

-- the bytes behind the count
rest_is : (r : List ℕ) → take (length r - 1) (drop 1 r) ≡ drop 1 r
rest_is r = take_all (length r - 1) (drop 1 r) (rw (length-drop 1 r) (omega arith))

-- a count within it, with the numbers copied over others
pub get_in : (r rest idx : List ℕ) (n : ℕ) → length r ≤ 24 → n < length r → n ≡ get_or r 0 0
    → idx ≡ take (length (take (length r - 1) (drop 1 r))) (take (length r - 1) (drop 1 r)) ++ rest → newest idx (min n 23) ≡ stack r
unfolding stack
get_in [] rest idx n m l c q = absurd (omega arith)
get_in (c ∷ xs) rest idx n m l d q =
    let few : min n 23 ≡ n = omega arith in
    let all : take (suc (length xs) - 1) xs ≡ xs = rest_is (c ∷ xs) in
    rw (few, q, all, take-length xs, newest_front xs rest n (omega arith), d, le-leb c (length xs) (omega arith))

-- the bytes of a set that has room
pub put_in : (r idx ys : List ℕ) (n : ℕ) → length idx ≡ 23 → n < length r → length r ≤ 24 → ys ≡ take (length r - 1) idx
    → stack (set (splice r 1 (length r - 1) ys) 0 n) ≡ newest idx n
unfolding stack
put_in [] idx ys n i h l e = absurd (omega arith)
put_in (c ∷ xs) idx ys n i h l e =
    let k : suc (length xs) - 1 ≡ length xs = omega arith in
    let w : length (take (length xs) idx) ≡ length xs = length-take-le (length xs) idx (omega arith) in
    rw (e, k, drop-length xs, append-nil (take (length xs) idx), le-leb n (length (take (length xs) idx)) (omega arith))
    (newest_take idx (length xs) n (omega arith))

-- what is copied is as long as its place
pub same_rest : (r idx : List ℕ) → length idx ≡ 23 → length r ≤ 24 → length (take (length r - 1) (drop 1 r)) ≡ length (take (length r - 1) idx)
same_rest r idx i l = rw (rest_is r, length-drop 1 r) (sym (length-take-le (length r - 1) idx (omega arith)))

-- a table of 23 numbers holds any set
pub set_fits : (x : InletSet) (n : ℕ) → n ≡ 24 → length (set_of x) < n
set_fits x n e = omega (arith, count_is x)

-- there are none just if the count is 0
none_in : (r : List ℕ) → eqb (get_or r 0 0) 0 ≡ is_empty (stack r)
unfolding stack newest is_empty
none_in [] = refl
none_in (zero ∷ xs) = rw (le-leb 0 (length xs) (omega arith))
none_in (suc c ∷ xs) = rw (ne_eqb (suc c) 0 (omega arith)) (some_in (leb (suc c) (length xs)) (get_or xs c 0) (newest xs c))
  where
    some_in : (b : Bool) (x : ℕ) (l : List ℕ) → false ≡ is_empty (if b then x ∷ l else 255 ∷ [])
    some_in true x l = refl
    some_in false x l = refl

pub none_at : (s : List ℕ) (a : ℕ) → eqb (get_or s a 0) 0 ≡ is_empty (stack (take 24 (drop a s)))
none_at s a = ap (λ (c : ℕ). eqb c 0) (sym (first_at s a 24 refl)) ∙ none_in (take 24 (drop a s))

-- What a table of sets in a state keeps: it lies from a on and says a field of the machine

abbrev pub touched_of : Machine → List rules.InletSet
touched_of m = m.touched

abbrev pub changed_of : Machine → List rules.InletSet
changed_of m = m.changed

pub record SetsLaws (a : ℕ) (of : Machine → List rules.InletSet) (with : ℕ → rules.InletSet → Machine → Machine) : Type 0 where
  pub within : a + 2304 ≤ machine_len
  pub loaded : (s : List ℕ) → Sized s → (i : ℕ) → i < 96 → get [] (of (view s)) i ≡ stack (take 24 (drop (a + i * 24) s))
  pub written : (s : List ℕ) → Sized s → (i : ℕ) (ys : List ℕ) (v : rules.InletSet) → i < 96 → length ys ≡ 24 → stack ys ≡ v →
      Leaves s (lent a 24 i s ys) (with i v (view s))

pub touched_laws : SetsLaws 9279 touched_of set_touched
touched_laws = record { within = omega arith; loaded = λ s z i h. touched_loaded s z i h; written = λ s z i ys v h l e. touched_written s z i ys v h l e }

pub changed_laws : SetsLaws 11583 changed_of set_changed
changed_laws = record { within = omega arith; loaded = λ s z i h. changed_loaded s z i h; written = λ s z i ys v h l e. changed_written s z i ys v h l e }

-- the part of a state that the set of a place is
module _ {a : ℕ} {of : Machine → List rules.InletSet} {with : ℕ → rules.InletSet → Machine → Machine} (laws : SetsLaws a of with)
    (s : List ℕ) (z : Sized s) (q : ℕ) (e : q ≡ a) (p : ℕ) (h : p < 96) where
  pub part_says : stack (take (q + p * 24 + 24 - (q + p * 24)) (drop (q + p * 24) s)) ≡ get [] (of (view s)) p
  part_says = rw e (ap stack (part_is s (a + p * 24) 24) ∙ sym (laws.loaded s z p h))

  pub part_length : length (take (q + p * 24 + 24 - (q + p * 24)) (drop (q + p * 24) s)) ≡ 24
  part_length =
      rw e (ap length (part_is s (a + p * 24) 24) ∙ length-take-le 24 (drop (a + p * 24) s) (rw (length-drop (a + p * 24) s) (omega (arith, laws.within))))

  pub none_says : eqb (get_or s (q + p * 24) 0) 0 ≡ is_empty (get [] (of (view s)) p)
  none_says = rw e (none_at s (a + p * 24) ∙ sym (ap is_empty (laws.loaded s z p h)))

  pub part_becomes : (ys : List ℕ) (v : rules.InletSet) → length ys ≡ 24 → stack ys ≡ v → Becomes (with p v) s (lent q 24 p s ys)
  part_becomes ys v l k = rw e (laws.written s z p ys v h l k)
