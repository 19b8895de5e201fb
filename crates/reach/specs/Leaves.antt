-- Leaves of one segment, one node after another.
use Rattle.std.specs.Prelude.{ℕ, suc, ◌+◌, ◌-◌, ◌≤◌, ◌<◌, ◌≡◌, refl, Bool, true, false, ◌&&◌, List, ◌∷◌, eqb, length, if◌then◌else◌}
use Rattle.std.proofs.Common.{add-one, arith, sym, ap, ◌∙◌}
use Rattle.rules.specs.Table.{get, filter, up_from}
use Rattle.rules.specs.Job.{Job}
use Rattle.rules.specs.Plan.{node_of, is_leaf, names, first_leaf}
use Rattle.laws.specs.Table.{by_bool}

-- two leaves name the same segment
abbrev pub same_segment : Job → ℕ → ℕ → Bool
same_segment j g l = eqb (node_of j l).segment (node_of j g).segment

-- the segment of g read beforehand
pub names_is : (j : Job) (g l n : ℕ) (b c : Bool) → n ≡ (node_of j g).segment → b ≡ (is_leaf j l && eqb (node_of j l).segment n) → b ≡ c → names j g l ≡ c
names_is j g l n b c e f q = rw (← e) (sym f ∙ q)

-- those from l on
abbrev pub named : Job → ℕ → ℕ → List ℕ
named j g l = filter (same_segment j g) (filter (is_leaf j) (up_from l (length j.nodes - l)))

-- what passes two tests
two : (p q : ℕ → Bool) (x : ℕ) (xs : List ℕ) → filter q (filter p (x ∷ xs)) ≡ (if (p x && q x) then x ∷ filter q (filter p xs) else filter q (filter p xs))
unfolding filter
two p q x xs = by_bool (p x) (λ e. by_bool (q x) (λ f. rw (e, f, filter)) (λ f. rw (e, f, filter))) (λ e. rw (e, filter))

-- those from l on, by whether l is one
pub named_next : (j : Job) (g l : ℕ) → l < length j.nodes → named j g l ≡ (if names j g l then l ∷ named j g (suc l) else named j g (suc l))
unfolding up_from
named_next j g l h =
    let n = length j.nodes in
    let e : n - l ≡ suc (n - suc l) = omega arith in
    rw e (two (is_leaf j) (same_segment j g) l (up_from (suc l) (n - suc l)))

-- the first leaf is among those from i on
abbrev pub FirstFrom : Job → ℕ → ℕ → Type 0
FirstFrom j g i = first_leaf j g ≡ get g (named j g i) 0

pub first_start : (j : Job) (g : ℕ) → FirstFrom j g 0
first_start j g = let e : length j.nodes - 0 ≡ length j.nodes = omega arith in rw e refl

-- node i names the segment
pub first_here : (j : Job) (g i : ℕ) → i < length j.nodes → FirstFrom j g i → names j g i ≡ true → i ≡ first_leaf j g
first_here j g i h f e = sym (f ∙ ap (λ (xs : List ℕ). get g xs 0) (named_next j g i h) ∙ rw e refl)

-- it does not
pub first_next : (j : Job) (g i : ℕ) → i < length j.nodes → FirstFrom j g i → names j g i ≡ false → FirstFrom j g (i + 1)
first_next j g i h f e = rw (add-one i) (f ∙ ap (λ (xs : List ℕ). get g xs 0) (named_next j g i h) ∙ rw e refl)

-- no node is left
pub first_end : (j : Job) (g i : ℕ) → length j.nodes ≤ i → FirstFrom j g i → g ≡ first_leaf j g
unfolding filter up_from
first_end j g i h f = let e : length j.nodes - i ≡ 0 = omega arith in sym (f ∙ rw e refl)
