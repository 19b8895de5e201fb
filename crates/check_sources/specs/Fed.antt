-- The ports that feed a pipeline, one by one.
use Rattle.std.specs.Prelude.{◌≡◌, refl, Bool, true, false, ◌&&◌, List, [], ◌∷◌, ℕ, suc, ◌+◌, ◌/◌, ◌≤◌, ◌<◌, length, drop, eqb, leb, ltb}
use Rattle.std.proofs.Common.{ap, add-one, arith, drop_of_length-le, eqb-true, leb-true, le-leb}
use Rattle.std.proofs.lemmas.Bool.{lt-leb}
use Rattle.rules.specs.Table.{get, all, is_some}
use Rattle.rules.specs.Machine.{Machine, slot_at_place, node_at_place, leaf_of_port, port_places, slot_places}
use Rattle.rules.specs.Plan.{node_of, names}
use Rattle.rules.specs.Check.{fed_below, fed_shared}
use Rattle.laws.specs.Table.{and_left, and_right, and_both, clash}
use Rattle.numbers.specs.Loops.{drop_next}

-- port x is of a child of the place's node, in its slot
abbrev pub below : Machine → ℕ → ℕ → Bool
below m p x = eqb (slot_at_place x) (slot_at_place p) && is_some (node_at_place p) (node_of m.job (node_at_place x)).parent

-- port x is at least the least that may be next, and below the place
abbrev pub inlet_ok : Machine → ℕ → ℕ → ℕ → Bool
inlet_ok m p least x = leb least x && below m p x

-- each port is below the place, and past the one before it
unfoldable pub rising : Machine → ℕ → ℕ → List ℕ → Bool
rising m p least [] = true
rising m p least (x ∷ xs) = inlet_ok m p least x && rising m p (suc x) xs

-- ports past one are past those before it
all_past : (a b : ℕ) (l : List ℕ) → a ≤ b → all (leb b) l ≡ true → all (leb a) l ≡ true
unfolding all
all_past a b [] h e = refl
all_past a b (x ∷ l) h e =
    let n = leb-true b x (and_left (leb b x) (all (leb b) l) e) in
    and_both (leb a x) (all (leb a) l) (le-leb a x (omega arith)) (all_past a b l h (and_right (leb b x) (all (leb b) l) e))

rising_is : (m : Machine) (p least : ℕ) (l : List ℕ) → rising m p least l ≡ (all (leb least) l && fed_below m p l)
unfolding rising all fed_below
rising_is m p least [] = refl
rising_is m p least (x ∷ xs) =
    rw (rising_is m p (suc x) xs)
    (regroup (leb least x) (below m p x) (all (leb least) xs) (all (leb (suc x)) xs) (fed_below m p xs)
    (λ t e. let n = leb-true least x t in all_past least (suc x) xs (omega arith) e))
  where
    regroup : (a b c d e : Bool) → (a ≡ true → d ≡ true → c ≡ true) → a && b && (d && e) ≡ a && c && (b && d && e)
    regroup false b c d e h = refl
    regroup true false true d e h = refl
    regroup true false false d e h = refl
    regroup true true true true e h = refl
    regroup true true false true e h = clash (cc (h refl refl))
    regroup true true true false e h = refl
    regroup true true false false e h = refl

all_zero : (l : List ℕ) → all (leb 0) l ≡ true
unfolding all
all_zero [] = refl
all_zero (x ∷ l) = and_both (leb 0 x) (all (leb 0) l) (le-leb 0 x (omega arith)) (all_zero l)

-- so the rule's test, which compares each port with all later ones, asks no more
pub fed_is : (m : Machine) (p : ℕ) (l : List ℕ) → fed_below m p l ≡ rising m p 0 l
fed_is m p l = rw (rising_is m p 0 l, all_zero l)

-- one inlet, then the others
pub rising_first : (m : Machine) (p least x : ℕ) (l : List ℕ) (i : ℕ) → i < length l → x ≡ get 0 l i
    → rising m p least (drop i l) ≡ (inlet_ok m p least x && rising m p (x + 1) (drop (i + 1) l))
unfolding rising
rising_first m p least x l i h e = rw (e, add-one (get 0 l i)) (ap (rising m p least) (drop_next 0 l i h))

pub rising_none : (m : Machine) (p least : ℕ) (l : List ℕ) (i : ℕ) → length l ≤ i → true ≡ rising m p least (drop i l)
unfolding rising
rising_none m p least l i h = rw (drop_of_length-le l {i = i} h)

-- a port below a place is of one of the slots
pub below_few : (m : Machine) (p least x : ℕ) → p < 96 → inlet_ok m p least x ≡ true → x < 96
below_few m p least x h e =
    let q = eqb-true (x / 24) (p / 24) (and_left (eqb (x / 24) (p / 24)) _ (and_right (leb least x) (below m p x) e)) in omega arith

-- one port: a shared one, or not
pub shared_one : (m : Machine) (p : ℕ) (l : List ℕ) → length l ≡ 1 → 72 ≤ get 0 l 0
    → (ltb (get 0 l 0) port_places && ltb p slot_places && names m.job (node_at_place p) (leaf_of_port (get 0 l 0))) ≡ fed_shared m p l
unfolding fed_shared
shared_one m p [] e h = absurd (omega arith)
shared_one m p (x ∷ []) e h = rw (le-leb 72 x h)
shared_one m p (x ∷ y ∷ l) e h = absurd (omega arith)

pub shared_low : (m : Machine) (p : ℕ) (l : List ℕ) → length l ≡ 1 → get 0 l 0 < 72 → false ≡ fed_shared m p l
unfolding fed_shared
shared_low m p [] e h = absurd (omega arith)
shared_low m p (x ∷ []) e h = rw (lt-leb 72 x h)
shared_low m p (x ∷ y ∷ l) e h = absurd (omega arith)

-- not one

pub shared_not : (m : Machine) (p : ℕ) (l : List ℕ) → (length l ≡ 1 → ⊥) → false ≡ fed_shared m p l
unfolding fed_shared
shared_not m p [] e = refl
shared_not m p (x ∷ []) e = absurd (e refl)
shared_not m p (x ∷ y ∷ l) e = refl
