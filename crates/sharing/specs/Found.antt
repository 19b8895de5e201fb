-- Leaves with a reach and pairs, counted node by node.
use Rattle.std.specs.Prelude.{ℕ, ◌+◌, ◌-◌, ◌≤◌, ◌<◌, ◌≡◌, refl, Bool, true, false, ◌&&◌, eqb, ltb, length, if◌then◌else◌}
use Rattle.std.proofs.Common.{arith, sym, ap, ◌∙◌, length-append, lt-ltb, le-ltb, eq-eqb}
use mathlib.Core.List.{List, [], ◌∷◌, map, flat_map}
use Rattle.std.proofs.lemmas.List.{length-map}
use Rattle.rules.specs.Table.{get, filter, sum_of, up_from}
use Rattle.rules.specs.Job.{Job}
use Rattle.rules.specs.Plan.{node_of, split_of, is_leaf, leaves_of, first_leaf, reach_start, reach_end, reaches, pairs, is_shared}
use Rattle.rules.specs.Machine.{shared_first}
use Rattle.laws.specs.Table.{by_bool}
use Rattle.layout.specs.Numbers.{mark}
use Rattle.reach.specs.Leaves.{same_segment}
use Rattle.reach.specs.Sums.{sum_end}

-- split t overlaps a reach from a to e
abbrev pub meets : Job → ℕ → ℕ → ℕ → Bool
meets j a e t = ltb a e && ltb (split_of j t).start e && ltb a (split_of j t).end

-- the splits that do
abbrev pub meeting : Job → ℕ → ℕ → List ℕ
meeting j a e = filter (meets j a e) (up_from 0 (length j.splits))

-- 1 for one that does
abbrev pub meet_mark : Job → ℕ → ℕ → ℕ → ℕ
meet_mark j a e t = mark (meets j a e t)

-- those that overlap the reach of leaf l
abbrev overlaps_of : Job → ℕ → List ℕ
overlaps_of j l = meeting j (reach_start j l) (reach_end j l)

-- what node l adds to the leaves of segment n with a reach, and to the pairs
abbrev pub reach_of : Job → ℕ → ℕ → ℕ
reach_of j n l = if (is_leaf j l && eqb (node_of j l).segment n) then mark (reaches j l) else 0

abbrev pub pairs_of : Job → ℕ → ℕ → ℕ
pairs_of j n l = if (is_leaf j l && eqb (node_of j l).segment n) then length (overlaps_of j l) else 0

-- how many pass a test
pub passing : (p : ℕ → Bool) (xs : List ℕ) → sum_of (λ x. mark (p x)) xs ≡ length (filter p xs)
unfolding filter sum_of
passing p [] = refl
passing p (x ∷ xs) = by_bool (p x) (λ e. rw (e, filter) (omega (arith, passing p xs))) (λ e. rw (e, filter) (omega (arith, passing p xs)))

-- how many pass three tests
passing_three : (p q r : ℕ → Bool) (xs : List ℕ) → length (filter r (filter q (filter p xs))) ≡ sum_of (λ x. if (p x && q x) then mark (r x) else 0) xs
unfolding filter sum_of
passing_three p q r [] = refl
passing_three p q r (x ∷ xs) =
    by_bool (p x)
    (λ e. by_bool (q x)
    (λ f. by_bool (r x) (λ g. rw (e, f, g, filter) (omega (arith, passing_three p q r xs))) (λ g. rw (e, f, g, filter) (omega (arith, passing_three p q r xs))))
    (λ f. rw (e, f, filter) (omega (arith, passing_three p q r xs))))
    (λ e. rw (e, filter) (omega (arith, passing_three p q r xs)))

-- how many those that pass two tests give
giving : {A : Type 0} (p q : ℕ → Bool) (f : ℕ → List A) (xs : List ℕ) →
    length (flat_map f (filter q (filter p xs))) ≡ sum_of (λ x. if (p x && q x) then length (f x) else 0) xs
unfolding filter sum_of flat_map
giving p q f [] = refl
giving p q f (x ∷ xs) =
    by_bool (p x)
    (λ e. by_bool (q x)
    (λ g. rw (e, g, filter) (length-append (f x) (flat_map f (filter q (filter p xs))) ∙ ap (λ n. length (f x) + n) (giving p q f xs)))
    (λ g. rw (e, g, filter) (omega (arith, giving p q f xs))))
    (λ e. rw (e, filter) (omega (arith, giving p q f xs)))

-- A reach without rows is overlapped by no split

none_left : (p : ℕ → Bool) (xs : List ℕ) → ((x : ℕ) → p x ≡ false) → filter p xs ≡ []
unfolding filter
none_left p [] h = refl
none_left p (x ∷ xs) h = rw (h x, filter) (none_left p xs h)

pub none_meets : (j : Job) (a e : ℕ) → ltb a e ≡ false → 0 ≡ length (meeting j a e)
none_meets j a e h = sym (ap length (none_left (meets j a e) (up_from 0 (length j.splits)) (λ t. rw h)))

-- Totals

pub reach_total : (j : Job) (g : ℕ) → sum_of (reach_of j (node_of j g).segment) (up_from 0 (length j.nodes)) ≡ length (filter (reaches j) (leaves_of j g))
reach_total j g = sym (passing_three (is_leaf j) (same_segment j g) (reaches j) (up_from 0 (length j.nodes)))

pairs_given : (j : Job) (n : ℕ) (xs : List ℕ)
    → sum_of (λ l. if (is_leaf j l && eqb (node_of j l).segment n) then length (map {B = ℕ × ℕ} (λ s. (l, s)) (overlaps_of j l)) else 0) xs
    ≡ sum_of (pairs_of j n) xs
unfolding sum_of
pairs_given j n [] = refl
pairs_given j n (l ∷ xs) = rw (length-map {B = ℕ × ℕ} (overlaps_of j l) (λ s. (l, s)), pairs_given j n xs)

pub pair_total : (j : Job) (g : ℕ) → sum_of (pairs_of j (node_of j g).segment) (up_from 0 (length j.nodes)) ≡ length (pairs j g)
pair_total j g =
    sym (giving (is_leaf j) (same_segment j g) (λ l. map (λ s. (l, s)) (overlaps_of j l)) (up_from 0 (length j.nodes))
    ∙ pairs_given j (node_of j g).segment (up_from 0 (length j.nodes)))

-- all n nodes have been asked, k being the segment of leaf g
module _ (j : Job) (g n k l a p : ℕ) (e : n ≡ length j.nodes) (f : k ≡ (node_of j g).segment) (h : n ≤ l)
    (u : sum_of (reach_of j k) (up_from 0 n) ≡ a + sum_of (reach_of j k) (up_from l (n - l))) where
  reach_all : a ≡ length (filter (reaches j) (leaves_of j g))
  reach_all = sum_end (reach_of j k) n l a (sum_of (reach_of j k) (up_from 0 n)) h u ∙ rw (e, f) (reach_total j g)

  -- two leaves have a reach
  pub two_reach : 1 < a → true ≡ is_shared j g
  two_reach t = rw (← reach_all, lt-ltb 1 a t)

  -- at most one has: the pairs decide
  pub pairs_decide : a ≤ 1 → sum_of (pairs_of j k) (up_from 0 n) ≡ p + sum_of (pairs_of j k) (up_from l (n - l)) → ltb 1 p ≡ is_shared j g
  pairs_decide t v =
      let w : p ≡ length (pairs j g) = sum_end (pairs_of j k) n l p (sum_of (pairs_of j k) (up_from 0 n)) h v ∙ rw (e, f) (pair_total j g) in
      rw (← reach_all, le-ltb 1 a t, ← w) refl

-- A leaf that alone names its segment

one_at_most : (p : ℕ → Bool) (x : ℕ) → ltb 1 (length (filter p (x ∷ []))) ≡ false
unfolding filter
one_at_most p x = by_bool (p x) (λ e. rw (e, filter) refl) (λ e. rw (e, filter) refl)

one_gives : {A : Type 0} (f : ℕ → List A) (x : ℕ) → length (flat_map f (x ∷ [])) ≡ length (f x)
unfolding flat_map
one_gives f x = length-append (f x) [] ∙ omega arith

pub alone_shared : (j : Job) (g n : ℕ) → leaves_of j g ≡ g ∷ [] → n ≡ length (overlaps_of j g) → ltb 1 n ≡ is_shared j g
alone_shared j g n a e =
    let u : ltb 1 (length (filter (reaches j) (leaves_of j g))) ≡ false = rw a (one_at_most (reaches j) g) in
    let v : length (pairs j g) ≡ n
    = ap (λ (xs : List ℕ). length (flat_map (λ l. map {B = ℕ × ℕ} (λ s. (l, s)) (overlaps_of j l)) xs)) a
    ∙ one_gives (λ l. map {B = ℕ × ℕ} (λ s. (l, s)) (overlaps_of j l)) g ∙ length-map {B = ℕ × ℕ} (overlaps_of j g) (λ s. (g, s)) ∙ sym e in
    rw (u, v) refl

-- it is the first leaf of it
pub alone_first : (j : Job) (g : ℕ) (b : Bool) → leaves_of j g ≡ g ∷ [] → is_leaf j g ≡ true → b ≡ is_shared j g → b ≡ shared_first j g
alone_first j g b a e f =
    let q : eqb (first_leaf j g) g ≡ true = ap (λ (xs : List ℕ). eqb (get g xs 0) g) a ∙ eq-eqb g g refl in
    rw (e, q) f
