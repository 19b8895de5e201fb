-- Where no two leaves name one segment, each leaf alone names its own.
use Rattle.std.specs.Prelude.{ℕ, zero, suc, ◌+◌, ◌≤◌, ◌<◌, ◌≡◌, refl, Bool, true, false, ◌&&◌, ◌≢◌, [], ◌∷◌, eqb, ltb, length}
use Rattle.std.proofs.Common.{arith, sym, ap, ne_eqb, eq-eqb, ltb-true, ltb-false}
use Rattle.rules.specs.Table.{filter, up_from}
use Rattle.rules.specs.Job.{Job, is_segment}
use Rattle.rules.specs.Plan.{node_of, is_leaf, leaves_of}
use Rattle.laws.specs.Table.{by_bool, by_eq, and_left, and_right}
use Rattle.check_job.specs.Seen.{Distinct}

-- none of the numbers from i on passes two tests
none_passes : (p q : ℕ → Bool) (i n : ℕ) → ((l : ℕ) → i ≤ l → (p l && q l) ≡ false) → filter q (filter p (up_from i n)) ≡ []
unfolding filter up_from
none_passes p q i zero h = refl
none_passes p q i (suc n) h =
    let r = none_passes p q (suc i) n (λ l k. h l (omega arith)) in
    by_bool (p i)
    (λ e. let f : q i ≡ false = rw e at (h i (omega arith)) in rw (e, filter, f) r)
    (λ e. rw (e, filter) r)

-- only g does
one_passes : (p q : ℕ → Bool) (g i n : ℕ) → p g ≡ true → q g ≡ true → ((l : ℕ) → l ≢ g → (p l && q l) ≡ false) → i ≤ g → g < i + n →
    filter q (filter p (up_from i n)) ≡ g ∷ []
unfolding filter up_from
one_passes p q g i zero a b h u v = absurd (omega arith)
one_passes p q g i (suc n) a b h u v =
    by_eq i g
    (λ e. let c : p i ≡ true = rw e a in
    let f : q i ≡ true = rw e b in
    rw (c, filter, f, none_passes p q (suc i) n (λ l k. h l (λ w. omega arith))) (ap (λ (l : ℕ). l ∷ []) e))
    (λ o. let r = one_passes p q g (suc i) n a b h (omega arith) (omega arith) in
    by_bool (p i)
    (λ e. let f : q i ≡ false = rw e at (h i o) in rw (e, filter, f) r)
    (λ e. rw (e, filter) r))

-- a leaf is a node
pub leaf_below : (j : Job) (g : ℕ) → is_leaf j g ≡ true → g < length j.nodes
leaf_below j g e = ltb-true g (length j.nodes) (and_left (ltb g (length j.nodes)) (is_segment (node_of j g).kind) e)

-- of a segment
leaf_kind : (j : Job) (g : ℕ) → is_leaf j g ≡ true → is_segment (node_of j g).kind ≡ true
leaf_kind j g e = and_right (ltb g (length j.nodes)) (is_segment (node_of j g).kind) e

module _ (j : Job) (g : ℕ) (d : Distinct j.nodes) (e : is_leaf j g ≡ true) where
  -- another leaf names another segment
  other_named : (l : ℕ) → l ≢ g → is_leaf j l ≡ true → (node_of j l).segment ≢ (node_of j g).segment
  other_named l n t q =
      by_bool (ltb l g)
      (λ b. d g l (leaf_below j g e) (ltb-true l g b) (leaf_kind j g e) q)
      (λ b. d l g (leaf_below j l t) (omega (arith, ltb-false l g b)) (leaf_kind j l t) (sym q))

  pub leaf_alone : leaves_of j g ≡ g ∷ []
  leaf_alone =
      one_passes (is_leaf j) (λ l. eqb (node_of j l).segment (node_of j g).segment) g 0 (length j.nodes) e
      (eq-eqb (node_of j g).segment (node_of j g).segment refl)
      (λ l n. by_bool (is_leaf j l)
      (λ t. rw (t, ne_eqb (node_of j l).segment (node_of j g).segment (other_named l n t)))
      (λ t. rw t))
      (omega arith) (omega (arith, leaf_below j g e))
