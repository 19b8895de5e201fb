-- Numbers in lists, and the first leaf of a segment.
use Rattle.std.specs.Prelude.{◌≡◌, refl, ◌⊎◌, Bool, true, false, ◌&&◌, ◌||◌, List, [], ◌∷◌, map, ℕ, ◌<◌, length, eqb, ltb}
use Rattle.std.proofs.Common.{sym, ap, ◌∙◌, inl, inr, arith, eqb-true, eq-eqb, ltb-true}
use Rattle.rules.specs.Table.{get, has, up_from, filter}
use Rattle.rules.specs.Job.{Job, is_segment}
use Rattle.rules.specs.Plan.{node_of, is_leaf, leaves, leaves_of, first_leaf, is_shared}
use Rattle.laws.specs.Table.{by_bool, clash, and_left, and_right, and_both}
use Rattle.order.specs.Lists.{has_up}

-- Numbers in lists

pub or-true : (a b : Bool) → a || b ≡ true → (a ≡ true) ⊎ (b ≡ true)
or-true true b e = inl refl
or-true false b e = inr e

pub or_inl : (a b : Bool) → a ≡ true → a || b ≡ true
or_inl true b e = refl
or_inl false b e = clash (cc)

pub or_inr : (a b : Bool) → b ≡ true → a || b ≡ true
or_inr true b e = refl
or_inr false b e = e

abbrev pub either : {A B P : Type 0} → A ⊎ B → (A → P) → (B → P) → P
either (inl a) f g = f a
either (inr b) f g = g b

or_and : (a b c : Bool) → (a ≡ true → c ≡ true) → a || (b && c) ≡ (a || b) && c
or_and true b c h = sym (h refl)
or_and false b c h = refl

or_nand : (a b c : Bool) → (a ≡ true → c ≡ false) → b && c ≡ (a || b) && c
or_nand true true c h = refl
or_nand true false c h = sym (h refl)
or_nand false b c h = refl

-- what a filter keeps
pub filter_has : (f : ℕ → Bool) (xs : List ℕ) (n : ℕ) → has n (filter f xs) ≡ has n xs && f n
unfolding filter has
filter_has f [] n = refl
filter_has f (x ∷ xs) n = by_bool (f x)
    (λ h. rw (h, filter, filter_has f xs n) (or_and (eqb n x) (has n xs) (f n) (λ d. rw (eqb-true n x d) h)))
    (λ h. rw (h, filter, filter_has f xs n) (or_nand (eqb n x) (has n xs) (f n) (λ d. rw (eqb-true n x d) h)))

pub map_has : (f : ℕ → ℕ) (xs : List ℕ) (y : ℕ) → has y (map f xs) ≡ true → (n : ℕ) × (has n xs ≡ true) × (y ≡ f n)
unfolding has
map_has f [] y e = clash (cc)
map_has f (x ∷ xs) y e = either (or-true (eqb y (f x)) (has y (map f xs)) e)
    (λ h. (x, or_inl (eqb x x) (has x xs) (eq-eqb x x refl), eqb-true y (f x) h))
    (λ h. let r : (n : ℕ) × (has n xs ≡ true) × (y ≡ f n) = map_has f xs y h in (r.0, or_inr (eqb r.0 x) (has r.0 xs) r.1, r.2))

-- the first of a list that is not empty
pub first_has : (d n : ℕ) (xs : List ℕ) → has n xs ≡ true → has (get d xs 0) xs ≡ true
unfolding has
first_has d n [] e = clash (cc)
first_has d n (x ∷ xs) e = or_inl (eqb x x) (has x xs) (eq-eqb x x refl)

pub first_any : (d c n : ℕ) (xs : List ℕ) → has n xs ≡ true → get d xs 0 ≡ get c xs 0
unfolding has
first_any d c n [] e = clash (cc)
first_any d c n (x ∷ xs) e = refl

-- Leaves

module _ (j : Job) where
  pub leaf_below : (l : ℕ) → is_leaf j l ≡ true → l < length j.nodes
  leaf_below l e = ltb-true l (length j.nodes) (and_left (ltb l (length j.nodes)) (is_segment (node_of j l).kind) e)

  pub leaf_kind : (l : ℕ) → is_leaf j l ≡ true → is_segment (node_of j l).kind ≡ true
  leaf_kind l e = and_right (ltb l (length j.nodes)) (is_segment (node_of j l).kind) e

  pub leaf_has : (l : ℕ) → is_leaf j l ≡ true → has l (leaves j) ≡ true
  leaf_has l e =
      rw (filter_has (is_leaf j) (up_from 0 (length j.nodes)) l)
      (and_both (has l (up_from 0 (length j.nodes))) (is_leaf j l) (has_up 0 (length j.nodes) l (omega arith) (let h : l < length j.nodes = leaf_below l e in omega arith)) e)

  -- leaves of one segment have one list of leaves
  pub leaves_of_same : (l k : ℕ) → (node_of j l).segment ≡ (node_of j k).segment → leaves_of j l ≡ leaves_of j k
  leaves_of_same l k e = rw e

  leaves_of_has : (l : ℕ) → is_leaf j l ≡ true → has l (leaves_of j l) ≡ true
  leaves_of_has l e =
      rw (filter_has (λ x. eqb (node_of j x).segment (node_of j l).segment) (leaves j) l)
      (and_both (has l (leaves j)) (eqb (node_of j l).segment (node_of j l).segment) (leaf_has l e) (eq-eqb (node_of j l).segment (node_of j l).segment refl))

  -- the first leaf is a leaf of that segment
  pub first_leaf_lem : (l : ℕ) → is_leaf j l ≡ true → (is_leaf j (first_leaf j l) ≡ true) × ((node_of j (first_leaf j l)).segment ≡ (node_of j l).segment)
  first_leaf_lem l e =
      let h : has (first_leaf j l) (leaves_of j l) ≡ true = first_has l l (leaves_of j l) (leaves_of_has l e) in
      let g : has (first_leaf j l) (leaves j) && eqb (node_of j (first_leaf j l)).segment (node_of j l).segment ≡ true = sym (filter_has (λ x. eqb (node_of j x).segment (node_of j l).segment) (leaves j) (first_leaf j l)) ∙ h in
      let k : has (first_leaf j l) (up_from 0 (length j.nodes)) && is_leaf j (first_leaf j l) ≡ true = sym (filter_has (is_leaf j) (up_from 0 (length j.nodes)) (first_leaf j l)) ∙ and_left (has (first_leaf j l) (leaves j)) (eqb (node_of j (first_leaf j l)).segment (node_of j l).segment) g in (
        and_right (has (first_leaf j l) (up_from 0 (length j.nodes))) (is_leaf j (first_leaf j l)) k,
        eqb-true (node_of j (first_leaf j l)).segment (node_of j l).segment (and_right (has (first_leaf j l) (leaves j)) (eqb (node_of j (first_leaf j l)).segment (node_of j l).segment) g),
      )

  -- leaves of one segment have one first leaf
  pub first_same : (l k : ℕ) → is_leaf j l ≡ true → (node_of j l).segment ≡ (node_of j k).segment → first_leaf j l ≡ first_leaf j k
  first_same l k e s = first_any l k l (leaves_of j l) (leaves_of_has l e) ∙ ap (λ xs. get k xs 0) (leaves_of_same l k s)

  pub first_first : (l : ℕ) → is_leaf j l ≡ true → first_leaf j (first_leaf j l) ≡ first_leaf j l
  first_first l e = let f : (is_leaf j (first_leaf j l) ≡ true) × ((node_of j (first_leaf j l)).segment ≡ (node_of j l).segment) = first_leaf_lem l e in first_same (first_leaf j l) l f.0 f.1

  -- leaves of one segment are shared alike
  pub shared_same : (l k : ℕ) → (node_of j l).segment ≡ (node_of j k).segment → is_shared j l ≡ is_shared j k
  shared_same l k e = rw e
