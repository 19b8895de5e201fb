-- The first leaf of a segment: no leaf before it names the segment.
use Rattle.std.specs.Prelude.{ℕ, suc, ◌+◌, ◌-◌, ◌≤◌, ◌<◌, ◌≡◌, refl, Bool, true, false, ◌&&◌, List, eqb, length}
use Rattle.std.proofs.Common.{arith, sym, ap, ◌∙◌, ne_eqb, eq-eqb}
use Rattle.rules.specs.Table.{get}
use Rattle.rules.specs.Job.{Job}
use Rattle.rules.specs.Plan.{node_of, is_leaf, first_leaf, names}
use Rattle.rules.specs.Machine.{Machine}
use Rattle.rules.specs.Check.{is_first}
use Rattle.reach.specs.Leaves.{named, named_next}
use Rattle.check_job.specs.Seen.{Distinct}
use Rattle.check_job.specs.Alone.{leaf_below, leaf_alone}

-- the answer is that for the leaves from l on
abbrev pub First : Job → ℕ → ℕ → Type 0
First j g l = eqb (first_leaf j g) g ≡ eqb (get g (named j g l) 0) g

pub first_start : (j : Job) (g : ℕ) → First j g 0
first_start j g = let e : length j.nodes - 0 ≡ length j.nodes = omega arith in rw e refl

-- leaf l names the segment
pub first_named : (m : Machine) (g l : ℕ) → is_leaf m.job g ≡ true → l < g → First m.job g l → names m.job g l ≡ true → false ≡ is_first m g
first_named m g l e h t y =
    let j = m.job in
    let n : get g (named j g l) 0 ≡ l = ap (λ (xs : List ℕ). get g xs 0) (named_next j g l (omega (arith, leaf_below j g e))) ∙ rw y refl in
    sym (ap (λ (i : Bool). i && eqb (first_leaf j g) g) e ∙ t ∙ ap (λ (i : ℕ). eqb i g) n ∙ ne_eqb l g (λ q. omega arith))

-- it does not
pub first_next : (j : Job) (g l : ℕ) → l < g → g < length j.nodes → First j g l → names j g l ≡ false → First j g (l + 1)
first_next j g l h n t y =
    let e : l + 1 ≡ suc l = omega arith in
    rw e (t ∙ ap (λ (xs : List ℕ). eqb (get g xs 0) g) (named_next j g l (omega arith)) ∙ rw y refl)

-- all before g are asked
pub first_end : (m : Machine) (g l : ℕ) → is_leaf m.job g ≡ true → g ≤ l → l ≤ g → First m.job g l → true ≡ is_first m g
first_end m g l e a b t =
    let j = m.job in
    let w : l ≡ g = omega arith in
    let y : names j g g ≡ true = rw (e, eq-eqb (node_of j g).segment (node_of j g).segment refl) refl in
    let n : get g (named j g g) 0 ≡ g = ap (λ (xs : List ℕ). get g xs 0) (named_next j g g (leaf_below j g e)) ∙ rw y refl in
    let z : eqb (first_leaf j g) g ≡ eqb (get g (named j g g) 0) g = rw w at t in
    sym (ap (λ (i : Bool). i && eqb (first_leaf j g) g) e ∙ z ∙ ap (λ (i : ℕ). eqb i g) n ∙ eq-eqb g g refl)

-- the leaves are distinct
pub first_new : (m : Machine) (g : ℕ) → is_leaf m.job g ≡ true → Distinct m.job.nodes → true ≡ is_first m g
first_new m g e d =
    sym (ap (λ (i : Bool). i && eqb (first_leaf m.job g) g) e ∙ ap (λ (xs : List ℕ). eqb (get g xs 0) g) (leaf_alone m.job g d e) ∙ eq-eqb g g refl)

-- no leaf
pub first_not : (m : Machine) (g : ℕ) → is_leaf m.job g ≡ false → false ≡ is_first m g
first_not m g e = sym (ap (λ (i : Bool). i && eqb (first_leaf m.job g) g) e)
