-- Which shared ports a pipeline writes, by number.
use Rattle.std.specs.Prelude.{◌≡◌, refl, Bool, true, false, not, ◌&&◌, List, [], ◌∷◌, ℕ, ◌+◌, ◌-◌, ◌*◌, ◌/◌, ◌%◌, ◌≤◌, ◌<◌, length, eqb, ltb}
use Rattle.std.proofs.Common.{sym, ap, ap₂, ◌∙◌, inl, inr, arith, ltb-true, lt-ltb, eqb-true, eq-eqb}
use Rattle.std.proofs.lemmas.Bool.{not-true, not-false}
use Rattle.rules.specs.Table.{has, filter, up_from}
use Rattle.rules.specs.Job.{Job}
use Rattle.rules.specs.Plan.{node_of, is_leaf}
use Rattle.rules.specs.Machine.{Machine, Port, node_at_place, port_at, outlets}
use Rattle.laws.specs.Table.{by_bool, clash, and_left, and_right, and_both}
use Rattle.laws.specs.Rising.{Rising, has_nil, has_head, has_tail, rising_weak, rising_ext}
use Rattle.order.specs.Inv.{There}
use Rattle.order.specs.State.{OutletOf}
use Rattle.order.specs.Among.{Among, among_up, up_among, among_filter, filter_among, rising_up, rising_filter}
use Rattle.order.specs.Leaves.{leaf_below}
use Rattle.order.specs.Outlets.{outlets_among, outlets_there, among_outlets, outlets_rise}
use Rattle.laws.specs.Table.{by_eq}

-- port x is of a split of the job and a leaf of the segment of g
unfoldable pub is_share_of : Job → ℕ → ℕ → Bool
is_share_of j g x = ltb ((x - 72) % 16) (length j.splits) && (is_leaf j ((x - 72) / 16) && eqb (node_of j ((x - 72) / 16)).segment (node_of j g).segment)

-- and it is there
unfoldable pub is_outlet : Machine → ℕ → ℕ → Bool
is_outlet m p x = (port_at m x).there && is_share_of m.job (node_at_place p) x

-- no port of a leaf of another segment
no_last : (a b : Bool) → a && (b && false) ≡ false
no_last true true = refl
no_last true false = refl
no_last false b = refl

pub outlet_other : (m : Machine) (p l x : ℕ) → (is_leaf m.job l && eqb (node_of m.job l).segment (node_of m.job (node_at_place p)).segment) ≡ false
    → 72 + 16 * l ≤ x → x < 72 + 16 * l + 16 → is_outlet m p x ≡ false
unfolding is_outlet is_share_of
outlet_other m p l x e i j =
    let q : (x - 72) / 16 ≡ l = omega arith in
    rw (q, e) (no_last (port_at m x).there (ltb ((x - 72) % 16) (length m.job.splits)))

-- the test of port v that was loaded
pub outlet_none : (m : Machine) (p x : ℕ) (v : Port) → v ≡ port_at m x → not v.there ≡ true → false ≡ is_outlet m p x
unfolding is_outlet
outlet_none m p x v e h =
    let f : (port_at m x).there ≡ false = ap (λ (y : Port). y.there) (sym e) ∙ not-true v.there h in
    sym (ap (λ (b : Bool). b && is_share_of m.job (node_at_place p) x) f)

pub outlet_some : (m : Machine) (p x n : ℕ) (v : Port) (a b r : Bool) → v ≡ port_at m x → not v.there ≡ false → n ≡ length m.job.splits →
    a ≡ ltb ((x - 72) % 16) n
    → b ≡ (is_leaf m.job ((x - 72) / 16) && eqb (node_of m.job ((x - 72) / 16)).segment (node_of m.job (node_at_place p)).segment) → r ≡ (a && b) →
    r ≡ is_outlet m p x
unfolding is_outlet is_share_of
outlet_some m p x n v a b r e h i j k l =
    let f : (port_at m x).there ≡ true = ap (λ (y : Port). y.there) (sym e) ∙ not-false v.there h in
    l ∙ ap₂ ◌&&◌ (j ∙ ap (λ (c : ℕ). ltb ((x - 72) % 16) c) i) k ∙ sym (ap (λ (c : Bool). c && is_share_of m.job (node_at_place p) x) f)

-- a leaf of the segment of g
pub record ShareOf (j : Job) (g x : ℕ) : Type 0 where
  pub split : (x - 72) % 16 < length j.splits
  pub leaf : is_leaf j ((x - 72) / 16) ≡ true
  pub segment : (node_of j ((x - 72) / 16)).segment ≡ (node_of j g).segment

share_of : (j : Job) (g x : ℕ) → is_share_of j g x ≡ true → ShareOf j g x
unfolding is_share_of
share_of j g x e =
    let a : Bool = ltb ((x - 72) % 16) (length j.splits) in
    let b : Bool = is_leaf j ((x - 72) / 16) in
    let c : Bool = eqb (node_of j ((x - 72) / 16)).segment (node_of j g).segment in
    let r = and_right a (b && c) e in
    record {
      split = ltb-true ((x - 72) % 16) (length j.splits) (and_left a (b && c) e);
      leaf = and_left b c r;
      segment = eqb-true (node_of j ((x - 72) / 16)).segment (node_of j g).segment (and_right b c r);
    }

of_share : (j : Job) (g x : ℕ) → ShareOf j g x → is_share_of j g x ≡ true
unfolding is_share_of
of_share j g x s =
    let a : Bool = ltb ((x - 72) % 16) (length j.splits) in
    let b : Bool = is_leaf j ((x - 72) / 16) in
    let c : Bool = eqb (node_of j ((x - 72) / 16)).segment (node_of j g).segment in
    and_both a (b && c) (lt-ltb ((x - 72) % 16) (length j.splits) s.split)
    (and_both b c s.leaf (eq-eqb (node_of j ((x - 72) / 16)).segment (node_of j g).segment s.segment))

pub outlet_share : (m : Machine) (p x : ℕ) → is_outlet m p x ≡ true → There m.ports x × ShareOf m.job (node_at_place p) x
unfolding is_outlet
outlet_share m p x e =
    let a : Bool = (port_at m x).there in
    let b : Bool = is_share_of m.job (node_at_place p) x in
    (and_left a b e, share_of m.job (node_at_place p) x (and_right a b e))

share_outlet : (m : Machine) (p x : ℕ) → There m.ports x → ShareOf m.job (node_at_place p) x → is_outlet m p x ≡ true
unfolding is_outlet
share_outlet m p x t s = and_both (port_at m x).there (is_share_of m.job (node_at_place p) x) t (of_share m.job (node_at_place p) x s)

-- the same test where the same ports are there
pub outlet_same : (m n : Machine) (p x : ℕ) → n.job ≡ m.job → (port_at n x).there ≡ (port_at m x).there → is_outlet n p x ≡ is_outlet m p x
unfolding is_outlet
outlet_same m n p x e f = ap₂ ◌&&◌ f (ap (λ (j : Job). is_share_of j (node_at_place p) x) e)

-- Members of a list

among_has : (x : ℕ) (xs : List ℕ) → Among x xs → has x xs ≡ true
among_has x [] a = absurd a
among_has x (y ∷ ys) (inl e) = rw e (has_head y ys)
among_has x (y ∷ ys) (inr a) = by_eq x y (λ e. rw e (has_head y ys)) (λ d. has_tail x y ys d ∙ among_has x ys a)

has_among : (x : ℕ) (xs : List ℕ) → has x xs ≡ true → Among x xs
has_among x [] h = clash (cc (has_nil x))
has_among x (y ∷ ys) h = by_eq x y (λ e. inl e) (λ d. inr (has_among x ys (sym (has_tail x y ys d) ∙ h)))

-- rising lists with the same members are one
rising_one : (a : ℕ) (l k : List ℕ) → Rising a l → Rising a k → ((x : ℕ) → Among x l → Among x k) → ((x : ℕ) → Among x k → Among x l) → l ≡ k
rising_one a l k r s f g = rising_ext a l k r s (λ i.
    by_bool (has i l)
    (λ e. e ∙ sym (among_has i k (f i (has_among i l e))))
    (λ e. by_bool (has i k) (λ d. clash (cc (e, among_has i l (g i (has_among i k d))))) (λ d. e ∙ sym d)))

-- the port of leaf l and split t, by its number
of_number : (j : Job) (g l t x : ℕ) → length j.splits ≤ 16 → t < length j.splits → x ≡ 72 + (16 * l + t) → is_leaf j l ≡ true →
    (node_of j l).segment ≡ (node_of j g).segment → ShareOf j g x
of_number j g l t x h k e i q =
    let a : (x - 72) / 16 ≡ l = omega arith in
    let b : (x - 72) % 16 ≡ t = omega arith in
    record { split = rw b k; leaf = rw a i; segment = rw a q }

module _ (m : Machine) (p : ℕ) (low : 72 ≤ p) (few : length m.job.splits ≤ 16) (small : length m.job.nodes ≤ 24) where
  to_numbers : (x : ℕ) → Among x (outlets m p) → OutletOf m.job p x → Among x (filter (is_outlet m p) (up_from 72 384))
  to_numbers x a (inl o) = absurd (omega (arith, o.0))
  to_numbers x a (inr (s, (l, t, k, e, i, g))) =
      among_filter (is_outlet m p) x (up_from 72 384) (among_up x 72 384 (omega arith) (omega (arith, leaf_below m.job l i)))
      (share_outlet m p x (outlets_there m p x low a) (of_number m.job (node_at_place p) l t x few k e i g))

  of_numbers : (x : ℕ) → Among x (filter (is_outlet m p) (up_from 72 384)) → Among x (outlets m p)
  of_numbers x a =
      let r : Among x (up_from 72 384) × (is_outlet m p x ≡ true) = filter_among (is_outlet m p) x (up_from 72 384) a in
      let h : 72 ≤ x = (up_among x 72 384 r.0).0 in
      let w = outlet_share m p x r.1 in
      let e : x ≡ 72 + (16 * ((x - 72) / 16) + (x - 72) % 16) = omega arith in
      among_outlets m p x w.0 (inr (low, ((x - 72) / 16, (x - 72) % 16, w.1.split, e, w.1.leaf, w.1.segment)))

  -- a shared source's outlets, by rising number
  pub outlets_are : outlets m p ≡ filter (is_outlet m p) (up_from 72 384)
  outlets_are =
      rising_one 0 (outlets m p) (filter (is_outlet m p) (up_from 72 384)) (outlets_rise m p few)
      (rising_filter (is_outlet m p) 0 (up_from 72 384) (rising_weak 72 0 (up_from 72 384) (omega arith) (rising_up 72 384)))
      (λ x a. to_numbers x a (outlets_among m p x a)) of_numbers
